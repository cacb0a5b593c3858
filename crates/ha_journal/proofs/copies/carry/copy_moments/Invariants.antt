use Rattle.std.proofs.Common.{◌≡◌, take}
use Rattle.ha_journal.proofs.copies.carry.copy_moments.Given as goal

abbrev pub invariant-loop-pair : goal.invariant-loop-pair
invariant-loop-pair l = l.all ≡ take l.pair-index l.moments
