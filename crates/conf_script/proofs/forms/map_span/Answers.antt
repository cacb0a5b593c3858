use Rattle.std.proofs.Common.{◌∙◌, sym, subst, Bool, false, if◌then◌else◌}
use Rattle.yaml_scan.specs.Answers.{Gives}
use Rattle.conf_field.specs.Readings.{made}
use Rattle.ha_config.specs.declared.config.SpanForm.TheVariants as spans
use Rattle.conf_field.specs.Spans.{span_map}
use Rattle.conf_script.specs.Forms as forms
use Rattle.conf_script.proofs.forms.map_span.Goals as goal

pub returns : goal.returns
returns c =
    let pairs = c.args.pairs.now in
    let span = span_map c.args.line pairs in
    let P : Bool → Type 0 = λ b. Gives (if b then forms.parts_map pairs else made spans.Known span) c.known_span.result in
    subst P (sym c.if-has_template.false ∙ c.has_template.ensures) (c.known_span.ensures span c.span_map.ensures)
