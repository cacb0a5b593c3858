use Rattle.std.proofs.Common.{◌∙◌, sym, subst, Bool, true, false, Some, if◌then◌else◌}
use Rattle.yaml_scan.specs.Answers.{Gives}
use Rattle.conf_field.specs.Readings.{made}
use Rattle.conf_field.specs.Kinds as kinds
use Rattle.ha_config.specs.declared.config.SpanForm.TheVariants as spans
use Rattle.conf_field.specs.Spans.{span_text as literal_span}
use Rattle.conf_script.proofs.forms.span_text.Goals as goal

pub returns-then-holds_template : goal.returns-then-holds_template
returns-then-holds_template c =
    let t = c.args.text.now in
    let tree = kinds.template_by c.args.line (Some t) in
    let P : Bool → Type 0 = λ b. Gives (if b then made spans.Text tree else made spans.Known (literal_span c.args.line t)) c.text_span.result in
    subst P (sym c.if-holds_template.true ∙ c.holds_template.ensures) (c.text_span.ensures tree c.template_text.ensures)

pub returns : goal.returns
returns c =
    let t = c.args.text.now in
    let tree = kinds.template_by c.args.line (Some t) in
    let span = literal_span c.args.line t in
    let P : Bool → Type 0 = λ b. Gives (if b then made spans.Text tree else made spans.Known span) c.known_span.result in
    subst P (sym c.if-holds_template.false ∙ c.holds_template.ensures) (c.known_span.ensures span c.span_of.ensures)
