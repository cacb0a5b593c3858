use Rattle.std.proofs.Common.{sym, ap, take, ◌∙◌}
use Rattle.std.proofs.lemmas.Str.{IsUtf8-from_is_utf8}
use Rattle.reading.specs.Bytes.{sees}
use Rattle.flow_line.proofs.PlainRuns.{from_on}
use Rattle.flow_line.proofs.ShownStrings.{shown_run}
use Rattle.flow_line.proofs.text.shown_end.Goals as goal

pub returns-in-Some : goal.returns-in-Some
returns-in-Some c =
    shown_run c.args.bytes.now c.in-Some.at (sym c.first_escaped.ensures.place ∙ c.in-Some.is)
    (ap (sees 34) (sym (from_on c.in-Some.at c.args.bytes.now)) ∙ sym c.begins_with_quote.ensures ∙ c.if-begins_with_quote.true)
    (IsUtf8-from_is_utf8 (take c.in-Some.at c.args.bytes.now) (sym c.is_utf8.ensures ∙ c.if-is_utf8.true))
