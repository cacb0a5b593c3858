-- Whom an entry leaves aside.
use Rattle.std.specs.Prelude.{◌≡◌, ℕ, true, false, List, MatchOption, map, option_map, slice_get}
use Rattle.std.specs.BTreeSet.{BTreeSet}
use Rattle.ha_journal.specs.declared.entry.Entry.{Entry}
use Rattle.ha_journal.specs.Entries.{event_in, is_moment, opens_segment}
use Rattle.ha_journal.specs.declared.event.BusEvent.{BusEvent}
use Rattle.timer_queue.specs.Timers.{Timer, due_of}
use Rattle.event_bus.specs.declared.index.Index.{Index}
use Rattle.event_bus.specs.Lists.{has}
use Rattle.event_bus.specs.Subjects.{Subject, knows}
use Rattle.trig_set.specs.declared.owners.Attached.{Attached}
use Rattle.trig_set.specs.declared.scene.Shift.{Shift}
use Rattle.trig_set.specs.Order.{ascend, owner_of}
use Rattle.trig_set.specs.Queued.{IsLater}
use Rattle.trig_set.specs.Stands.{AtOwner}

-- no segment opens with the entry, and the index does not have the number for it: not for templates, not for its type of events or one of
-- those of helpers, and not for an entity that it changes; where it is a moment, neither for times, and the queue has no due of the number
-- that comes by then
pub record IsAside (index : Index) (queue : List Timer) (to : ℕ) (shifts : List Shift) (given : List BusEvent) (x : Entry) (n : ℕ) : Type 0 where
  pub within : opens_segment x ≡ false
  pub entries : knows index Subject.Entries n ≡ false
  pub events : MatchOption (option_map (λ v. v.0) (event_in x)) (Unit {0}) (λ q. knows index (Subject.Event q) n ≡ false)
  pub timed : (k : ℕ) → MatchOption (slice_get given k) (Unit {0}) (λ v. knows index (Subject.Event v.kind) n ≡ false)
  pub entities : (k : ℕ) → MatchOption (slice_get shifts k) (Unit {0}) (λ c. knows index (Subject.Entity c.entity) n ≡ false)
  pub times : is_moment x ≡ true → knows index Subject.Moments n ≡ false
  pub later : is_moment x ≡ true → IsLater to (due_of n queue)

-- the fact holds of the number of each owner whose place is not among these
abbrev pub OfOthers : List Attached → BTreeSet ℕ → (ℕ → Type 0) → Type 0
OfOthers owners places P = (n : ℕ) → has places n ≡ false → AtOwner owners n (λ a. ascend (map owner_of owners) ≡ true → P a.owner)
