use Rattle.std.proofs.Common.{◌≡◌, take, length}
use Rattle.ha_journal.proofs.copies.carry.begin_alike.Given as goal

abbrev pub invariant-loop-i : goal.invariant-loop-i
invariant-loop-i l = record { long : length l.left ≡ length l.right; same_front : take l.i l.left ≡ take l.i l.right }
