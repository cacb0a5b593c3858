use Rattle.std.proofs.Common.{sym, ap, ◌∙◌}
use Rattle.reading.specs.Bytes.{sees}
use Rattle.flow_line.proofs.PlainRuns.{from_on}
use Rattle.flow_line.proofs.PlainStrings.{plain_run}
use Rattle.flow_line.proofs.text.plain_end.Goals as goal

pub returns-in-Some : goal.returns-in-Some
returns-in-Some c =
    plain_run c.args.bytes.now c.in-Some.at (sym c.first_marked.ensures.place ∙ c.in-Some.is) c.in-Some.ensures.bound
    (ap (sees 34) (sym (from_on c.in-Some.at c.args.bytes.now)) ∙ sym c.begins_with_quote.ensures ∙ c.if-begins_with_quote.true)
