use Rattle.std.proofs.Common.{◌∙◌, sym, subst, Bool, true, false, Some, if◌then◌else◌}
use Rattle.yaml_scan.specs.Answers.{Gives}
use Rattle.conf_field.specs.Readings.{made}
use Rattle.conf_field.specs.Kinds as kinds
use Rattle.ha_config.specs.declared.config.Form.TheVariants as forms
use Rattle.conf_field.specs.Values.{bare_value}
use Rattle.conf_script.proofs.forms.scalar_form.Goals as goal

pub returns-then-holds : goal.returns-then-holds
returns-then-holds c =
    let t = c.args.text.now in
    let tree = kinds.template_by c.args.line (Some t) in
    let P : Bool → Type 0 = λ b. Gives (if b then made forms.Text tree else made forms.Plain (bare_value c.args.line t c.args.plain)) c.text_form.result in
    subst P (sym c.if-holds.true ∙ c.holds.ensures) (c.text_form.ensures tree c.source.ensures)

pub returns : goal.returns
returns c =
    let t = c.args.text.now in
    let tree = kinds.template_by c.args.line (Some t) in
    let value = bare_value c.args.line t c.args.plain in
    let P : Bool → Type 0 = λ b. Gives (if b then made forms.Text tree else made forms.Plain value) c.plain_form.result in
    subst P (sym c.if-holds.false ∙ c.holds.ensures) (c.plain_form.ensures value c.bare_value.ensures)
