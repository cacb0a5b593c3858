use Rattle.std.proofs.Common.{take}
use Rattle.entity_places.specs.Placed.{ArePlaced}
use Rattle.helper_set.specs.Listed.{kept_is_of}
use Rattle.helper_set.proofs.list.all_places.Given as goal

abbrev pub invariant-loop-i : goal.invariant-loop-i
invariant-loop-i l = ArePlaced l.places kept_is_of (take l.i l.list)
