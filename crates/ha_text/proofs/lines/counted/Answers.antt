use Rattle.ha_text.proofs.LineLemmas.{kept_bytes, no_bytes}
use Rattle.ha_text.proofs.lines.counted.Goals as goal
use Rattle.std.proofs.Common.{sym, ◌∙◌}

pub returns : goal.returns
returns c = kept_bytes c.longest.result c.min-kept.result c.args.line.now c.in_ok-from_slice.field-0.items c.longest.ensures.value (sym c.is_no_line.ensures ∙ c.if-is_no_line.false) c.min-kept.ensures c.in_ok-from_slice.ensures.items

pub returns-then-is_no_line : goal.returns-then-is_no_line
returns-then-is_no_line c = no_bytes c.args.line.now (sym c.is_no_line.ensures ∙ c.if-is_no_line.true)
