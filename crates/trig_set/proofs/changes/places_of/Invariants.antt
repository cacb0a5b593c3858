use Rattle.std.proofs.Common.{take}
use Rattle.entity_places.specs.Placed.{ArePlaced}
use Rattle.trig_set.specs.Changes.{shift_is_of}
use Rattle.trig_set.proofs.changes.places_of.Given as goal

abbrev pub invariant-loop-at : goal.invariant-loop-at
invariant-loop-at l = ArePlaced l.places shift_is_of (take l.at l.shifts)
