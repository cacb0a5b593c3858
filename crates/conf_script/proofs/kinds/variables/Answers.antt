use Rattle.conf_field.specs.declared.key.Key.TheVariants as key
use Rattle.conf_field.specs.Fields.{need, needed}
use Rattle.conf_script.specs.Forms as forms
use Rattle.conf_script.proofs.kinds.variables.Goals as goal

pub returns : goal.returns
returns c =
    let pairs = c.args.pairs.now in
    let given = need key.Variables c.args.line pairs forms.fields in
    c.made_variables.ensures given c.needed.ensures
