use Rattle.std.proofs.Common.{◌≡◌, ℕ, List, false, subst}
use Rattle.std.specs.Prelude.{MatchOption, OnOk, slice_get}
use Rattle.event_bus.specs.Lists.{has}
use Rattle.event_bus.specs.Subjects.{Subject, knows}
use Rattle.ha_journal.specs.declared.event.BusEvent.{BusEvent}
use Rattle.trig_set.proofs.many_spots.put_timers.Goals as goal

pub returns-clause-aside : goal.returns-clause-aside
returns-clause-aside c =
    subst (λ (l : List BusEvent). OnOk c.put_kinds.result ((n : ℕ) → has c.put_kinds.new.places n ≡ false
    → (k : ℕ) → MatchOption (slice_get l k) (Unit {0}) (λ v. knows c.args.index.now (Subject.Event v.kind) n ≡ false)))
    c.as_slice.ensures c.put_kinds.ensures.aside
