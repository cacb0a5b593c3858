use Rattle.std.proofs.Common.{◌≡◌, ◌+◌, length}
use Rattle.tpl_parse.specs.Literal.{before_range_end}
use Rattle.tpl_parse.proofs.range_end.before_range_end.Given as goal

-- The zeros that were passed, and the place behind them, give the whole.
abbrev pub invariant-zeros : goal.invariant-zeros
invariant-zeros l = (l.zeros + before_range_end 0 l.left l.left ≡ before_range_end 0 l.digits l.digits) × (l.zeros + length l.left ≡ length l.digits)

abbrev pub decreases-zeros : goal.decreases-zeros
decreases-zeros l = length l.left
