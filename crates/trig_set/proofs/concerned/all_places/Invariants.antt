use Rattle.std.proofs.Common.{◌≡◌, ◌≤◌, ℕ, false}
use Rattle.event_bus.specs.Lists.{has}
use Rattle.trig_set.proofs.concerned.all_places.Given as goal

abbrev pub invariant-loop-place : goal.invariant-loop-place
invariant-loop-place l = (n : ℕ) → has l.places n ≡ false → l.place ≤ n
