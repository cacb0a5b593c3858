use Rattle.std.proofs.Common.{◌≡◌, ℕ, false, length, map}
use Rattle.std.specs.Prelude.{slice_get}
use Rattle.event_bus.specs.Lists.{has}
use Rattle.trig_set.specs.Kept.{AreTimed, ripened}
use Rattle.trig_set.proofs.many_spots.ripen_noted.Given as goal

abbrev pub decreases-dues : goal.decreases-dues
decreases-dues l = length l.timers

abbrev pub invariant-dues : goal.invariant-dues
invariant-dues l = record {
  ripe : AreTimed l.initial.timers l.initial.spots → (map (ripened l.to) l.spots ≡ map (ripened l.to) l.initial.spots) × AreTimed l.timers l.spots;
  elsewhere : (n : ℕ) → has l.gone n ≡ false → (has l.initial.gone n ≡ false) × (slice_get l.spots n ≡ slice_get l.initial.spots n);
}
