use Rattle.std.proofs.Common.{◌≡◌, ℕ, List, false, subst}
use Rattle.std.specs.Prelude.{MatchOption, OnOk, slice_get}
use Rattle.event_bus.specs.Subjects.{Subject, knows}
use Rattle.trig_set.specs.declared.scene.Shift.{Shift}
use Rattle.trig_set.specs.Concerned.{OfOthers}
use Rattle.trig_set.proofs.concerned.put_entities.Goals as goal

pub returns-clause-aside : goal.returns-clause-aside
returns-clause-aside c =
    subst (λ (l : List Shift). OnOk c.put_shifts.result (OfOthers c.args.owners.now c.put_shifts.new.places (λ m. (k : ℕ) → MatchOption (slice_get l k) (Unit {0}) (λ s. knows c.args.index.now (Subject.Entity s.entity) m ≡ false))))
    c.as_slice.ensures c.put_shifts.ensures.aside
