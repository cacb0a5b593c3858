use Rattle.std.proofs.Common.{◌≡◌, ℕ, List, false, subst}
use Rattle.std.specs.Prelude.{MatchOption, OnOk, slice_get}
use Rattle.event_bus.specs.Lists.{has}
use Rattle.event_bus.specs.Subjects.{Subject, knows}
use Rattle.trig_set.specs.declared.scene.Shift.{Shift}
use Rattle.trig_set.proofs.many_spots.put_shifted.Goals as goal

pub returns-clause-aside : goal.returns-clause-aside
returns-clause-aside c =
    subst (λ (l : List Shift). OnOk c.put_shifts.result ((n : ℕ) → has c.put_shifts.new.places n ≡ false
    → (k : ℕ) → MatchOption (slice_get l k) (Unit {0}) (λ s. knows c.args.index.now (Subject.Entity s.entity) n ≡ false)))
    c.as_slice.ensures c.put_shifts.ensures.aside
