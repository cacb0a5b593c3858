use Rattle.conf_field.specs.declared.key.Key.TheVariants as key
use Rattle.conf_field.specs.Readings.{both}
use Rattle.conf_field.specs.Fields.{get, need}
use Rattle.conf_field.specs.Kinds as kinds
use Rattle.conf_script.specs.Forms as forms
use Rattle.conf_script.proofs.kinds.event.Goals as goal

pub returns : goal.returns
returns c =
    let pairs = c.args.pairs.now in
    let named = need key.Event c.args.line pairs kinds.text in
    let given = get key.EventData pairs forms.fields in
    c.made_event.ensures (both named given)
    (c.both.ensures named given c.needed-event.ensures c.optional-given.ensures)
