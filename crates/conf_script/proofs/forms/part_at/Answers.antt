use Rattle.conf_field.specs.Fields.{field, optional}
use Rattle.conf_script.specs.Forms as forms
use Rattle.conf_script.proofs.forms.part_at.Goals as goal

pub returns : goal.returns
returns c =
    let pairs = c.args.pairs.now in
    let given = optional forms.digits (field c.args.row pairs) in
    c.part_or.ensures given c.optional.ensures
