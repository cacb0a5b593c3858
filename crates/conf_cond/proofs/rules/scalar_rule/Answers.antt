use Rattle.std.proofs.Common.{◌∙◌, Bool, false, sym, subst}
use Rattle.yaml_scan.specs.Answers.{Gives}
use Rattle.yaml_scan.specs.declared.fault.Code.TheVariants as code
use Rattle.conf_field.specs.Readings.{bad, made}
use Rattle.conf_field.specs.Kinds as kinds
use Rattle.conf_cond.specs.Conditions as conditions
use Rattle.std.specs.Prelude.{if◌then◌else◌}
use Rattle.conf_cond.proofs.rules.scalar_rule.Goals as goal

pub returns : goal.returns
returns c =
    let tree = kinds.template_text c.args.line c.args.text.now (kinds.template_of c.args.text.now) in
    let P : Bool → Type 0 = λ b. Gives (if b then bad c.args.line code.Kind else made conditions.as_condition tree) c.as_condition.result in
    subst P (sym c.if-is_null_scalar.false ∙ c.is_null_scalar.ensures) (c.as_condition.ensures tree c.template_text.ensures)
