use Rattle.std.proofs.Common.{◌≡◌, drop}
use Rattle.ha_sight.specs.Once.{has_number}
use Rattle.helper_set.proofs.meant.has_number.Given as goal

abbrev pub invariant-loop-i : goal.invariant-loop-i
invariant-loop-i l = has_number l.number l.found ≡ has_number l.number (drop l.i l.found)
