use Rattle.conf_field.specs.declared.key.Key.TheVariants as key
use Rattle.conf_field.specs.Fields.{need, needed}
use Rattle.conf_script.specs.Forms as forms
use Rattle.conf_script.proofs.kinds.delay.Goals as goal

pub returns : goal.returns
returns c =
    let pairs = c.args.pairs.now in
    let span = need key.Delay c.args.line pairs forms.span_form in
    c.made_delay.ensures span c.needed.ensures
