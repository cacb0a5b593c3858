use Rattle.conf_field.specs.declared.key.Key.TheVariants as key
use Rattle.conf_field.specs.Readings.{both}
use Rattle.conf_field.specs.Fields.{get, need}
use Rattle.conf_field.specs.Kinds as kinds
use Rattle.conf_script.specs.Actions as actions
use Rattle.conf_script.specs.Forms as forms
use Rattle.conf_script.proofs.kinds.wait_for_trigger.Goals as goal

pub returns : goal.returns
returns c =
    let pairs = c.args.pairs.now in
    let listed = need key.WaitForTrigger c.args.line pairs actions.triggers_in in
    let timeout = get key.Timeout pairs forms.span_form in
    let given = get key.ContinueOnTimeout pairs kinds.flag in
    c.made_wait_for.ensures (both listed (both timeout given))
    (c.both-2.ensures listed (both timeout given) c.needed-triggers.ensures (c.both.ensures timeout given c.optional-timeout.ensures c.optional-given.ensures))
