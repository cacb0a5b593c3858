use Rattle.std.proofs.Common.{◌≡◌, ◌<◌, ℕ, false}
use Rattle.std.specs.Prelude.{MatchOption, slice_get}
use Rattle.event_bus.specs.Lists.{has}
use Rattle.event_bus.specs.Subjects.{Subject, knows}
use Rattle.trig_set.specs.Concerned.{OfOthers}
use Rattle.trig_set.proofs.concerned.put_shifts.Given as goal

abbrev pub invariant-loop-place : goal.invariant-loop-place
invariant-loop-place l = record {
  kept : (n : ℕ) → has l.places n ≡ false → has l.initial.places n ≡ false;
  aside : OfOthers l.owners l.places (λ m. (k : ℕ) → k < l.place → MatchOption (slice_get l.shifts k) (Unit {0}) (λ c. knows l.index (Subject.Entity c.entity) m ≡ false));
}
