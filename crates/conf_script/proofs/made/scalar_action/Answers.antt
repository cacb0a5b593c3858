use Rattle.std.proofs.Common.{◌∙◌, sym, subst, Bool, false, Some, if◌then◌else◌}
use Rattle.yaml_scan.specs.Answers.{Gives}
use Rattle.yaml_scan.specs.declared.fault.Code.TheVariants as code
use Rattle.conf_field.specs.Readings.{bad, made}
use Rattle.conf_field.specs.Kinds as kinds
use Rattle.conf_script.specs.Actions as actions
use Rattle.conf_script.proofs.made.scalar_action.Goals as goal

pub returns : goal.returns
returns c =
    let tree = kinds.template_by c.args.line (Some c.args.text.now) in
    let P : Bool → Type 0 = λ b. Gives (if b then bad c.args.line code.Kind else made actions.as_test tree) c.as_test.result in
    subst P (sym c.if-is_null_scalar.false ∙ c.is_null_scalar.ensures) (c.as_test.ensures tree c.template_text.ensures)
