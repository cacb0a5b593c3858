use Rattle.conf_field.specs.declared.key.Key.TheVariants as key
use Rattle.conf_field.specs.Readings.{both}
use Rattle.conf_field.specs.Fields.{get, need}
use Rattle.conf_field.specs.Kinds as kinds
use Rattle.conf_script.specs.Forms as forms
use Rattle.conf_script.proofs.kinds.wait_template.Goals as goal

pub returns : goal.returns
returns c =
    let pairs = c.args.pairs.now in
    let test = need key.WaitTemplate c.args.line pairs kinds.template in
    let timeout = get key.Timeout pairs forms.span_form in
    let given = get key.ContinueOnTimeout pairs kinds.flag in
    c.made_wait.ensures (both test (both timeout given))
    (c.both-2.ensures test (both timeout given) c.needed-test.ensures (c.both.ensures timeout given c.optional-timeout.ensures c.optional-given.ensures))
