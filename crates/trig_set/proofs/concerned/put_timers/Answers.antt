use Rattle.std.proofs.Common.{◌≡◌, ℕ, List, false, subst}
use Rattle.std.specs.Prelude.{MatchOption, OnOk, slice_get}
use Rattle.event_bus.specs.Subjects.{Subject, knows}
use Rattle.ha_journal.specs.declared.event.BusEvent.{BusEvent}
use Rattle.trig_set.specs.Concerned.{OfOthers}
use Rattle.trig_set.proofs.concerned.put_timers.Goals as goal

pub returns-clause-aside : goal.returns-clause-aside
returns-clause-aside c =
    subst (λ (l : List BusEvent). OnOk c.put_kinds.result (OfOthers c.args.owners.now c.put_kinds.new.places (λ m. (k : ℕ) → MatchOption (slice_get l k) (Unit {0}) (λ v. knows c.args.index.now (Subject.Event v.kind) m ≡ false))))
    c.as_slice.ensures c.put_kinds.ensures.aside
