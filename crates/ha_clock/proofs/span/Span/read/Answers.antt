use Rattle.std.proofs.Common.{◌∙◌, ap, None}
use Rattle.ha_clock.specs.SpanText.{bounded, number_of}
use Rattle.ha_clock.proofs.SpanLemmas.{bounded-within_bound, read_parts, span_of-position}
use Rattle.ha_clock.proofs.span.Span.read.Goals as goal

pub returns-in-None : goal.returns-in-None
returns-in-None c =
    c.seconds_span.ensures ∙ ap bounded c.number.ensures.value ∙ bounded-within_bound (number_of c.args.text.now)
    ∙ span_of-position c.args.text.now None c.in-None.ensures.value

pub returns-in-Some : goal.returns-in-Some
returns-in-Some c =
    read_parts c.args.text.now c.in-Some.colon _ _ c.in-Some.ensures.value c.number-in-Some.ensures.value c.after_hours.ensures
