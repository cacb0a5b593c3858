use Rattle.std.proofs.Common.{◌≡◌, ◌<◌, ℕ, false}
use Rattle.std.specs.Prelude.{MatchOption, slice_get}
use Rattle.event_bus.specs.Lists.{has}
use Rattle.event_bus.specs.Subjects.{Subject, knows}
use Rattle.trig_set.proofs.many_spots.put_kinds.Given as goal

abbrev pub invariant-loop-at : goal.invariant-loop-at
invariant-loop-at l = record {
  kept : (n : ℕ) → has l.places n ≡ false → has l.initial.places n ≡ false;
  aside : (n : ℕ) → has l.places n ≡ false → (k : ℕ) → k < l.at → MatchOption (slice_get l.events k) (Unit {0}) (λ v. knows l.index (Subject.Event v.kind) n ≡ false);
}
