use Rattle.std.proofs.Common.{◌≡◌, take, length}
use Rattle.ha_config.proofs.copies.conditions.+same_condition.Given as goal

abbrev pub invariant-same_conditions-loop-i : goal.invariant-same_conditions-loop-i
invariant-same_conditions-loop-i l = record { long : length l.left ≡ length l.right; same_front : take l.i l.left ≡ take l.i l.right }
