use Rattle.std.proofs.Common.{◌≡◌, ◌≤◌, ◌++◌, ℕ, drop, false, length, map, take, true}
use Rattle.std.specs.Prelude.{flat_map}
use Rattle.event_bus.specs.Lists.{has}
use Rattle.trig_set.specs.Kept.{cleared}
use Rattle.trig_set.specs.Timed.{Unfired, firings_in}
use Rattle.trig_set.proofs.many_spots.collect_some.Given as goal

abbrev pub decreases-places : goal.decreases-places
decreases-places l = length l.left.keys

abbrev pub invariant-places : goal.invariant-places
invariant-places l = record {
  next : ℕ;
  ahead : (n : ℕ) → has l.left n ≡ true → next ≤ n;
  behind : (n : ℕ) → next ≤ n → has l.left n ≡ has l.initial.left n;
  spots : ((n : ℕ) → has l.initial.left n ≡ false → Unfired (record { owner = l.owner; triggers = l.triggers; since = l.since }) l.scene.place l.scene.events.now l.initial.spots n) → l.spots ≡ map cleared (take next l.initial.spots) ++ drop next l.initial.spots;
  fired : ((n : ℕ) → has l.initial.left n ≡ false → Unfired (record { owner = l.owner; triggers = l.triggers; since = l.since }) l.scene.place l.scene.events.now l.initial.spots n) → l.fired ≡ l.initial.fired ++ flat_map (firings_in (record { owner = l.owner; triggers = l.triggers; since = l.since }) l.scene.place l.scene.events.now) (take next l.initial.spots);
}
