use Rattle.std.proofs.Common.{◌<◌, ℕ}
use Rattle.trig_set.specs.Kept.{At, place_of}
use Rattle.trig_set.specs.Listed.{HasAt}
use Rattle.trig_set.proofs.many_spots.list_spots.Given as goal

abbrev pub invariant-loop-place : goal.invariant-loop-place
invariant-loop-place l = (n : ℕ) → n < l.place → At l.spots n (λ s. HasAt l.index n l.triggers (place_of s))
