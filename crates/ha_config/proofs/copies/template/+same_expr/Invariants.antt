use Rattle.std.proofs.Common.{◌≡◌, take, length}
use Rattle.ha_config.proofs.copies.template.+same_expr.Given as goal

abbrev pub invariant-same_exprs-loop-i : goal.invariant-same_exprs-loop-i
invariant-same_exprs-loop-i l = record { long : length l.left ≡ length l.right; same_front : take l.i l.left ≡ take l.i l.right }
