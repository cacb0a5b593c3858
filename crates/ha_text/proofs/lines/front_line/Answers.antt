use Rattle.std.proofs.Common.{sym}
use Rattle.ha_text.specs.Lines.{kept_of}
use Rattle.ha_text.proofs.LineLemmas.{no_break, break_at, front_of}
use Rattle.ha_text.proofs.lines.front_line.Goals as goal

pub returns-in_default : goal.returns-in_default
returns-in_default c = no_break c.args.text.now (sym c.in_default.ensures)

pub returns : goal.returns
returns c = front_of c.args.text.now c.without_cr.result.now c.in-Some.at (kept_of c.in_ok-line.line) (break_at c.args.text.now c.in-Some.at (sym c.in-Some.ensures)) c.without_cr.ensures.value c.in_ok-line.ensures
