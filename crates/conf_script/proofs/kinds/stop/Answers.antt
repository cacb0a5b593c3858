use Rattle.conf_field.specs.declared.key.Key.TheVariants as key
use Rattle.conf_field.specs.Readings.{both}
use Rattle.conf_field.specs.Fields.{get, need}
use Rattle.conf_field.specs.Kinds as kinds
use Rattle.conf_script.specs.Actions as actions
use Rattle.conf_script.proofs.kinds.stop.Goals as goal

pub returns : goal.returns
returns c =
    let pairs = c.args.pairs.now in
    let reason = need key.Stop c.args.line pairs actions.text_or_null in
    let error = get key.Error pairs kinds.flag in
    c.made_stop.ensures (both reason error)
    (c.both.ensures reason error c.needed-reason.ensures c.optional-error.ensures)
