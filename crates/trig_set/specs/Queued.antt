-- When the earliest hold of each owner may be over.
use Rattle.std.specs.Prelude.{ℕ, ◌<◌, List, Option, MatchOption}
use Rattle.timer_queue.specs.Timers.{IsLeast, Timer, due_of}
use Rattle.trig_set.specs.declared.owners.Attached.{Attached}

-- no hold of the owner is due before what the queue has for its number; and it has no hold where the queue has nothing
abbrev pub HasDue : List Timer → Attached → Type 0
HasDue queue a = IsLeast (due_of a.owner queue) a.timers

-- a due, if there is one, comes after a moment
abbrev pub IsLater : ℕ → Option ℕ → Type 0
IsLater to due = MatchOption due (Unit {0}) (λ d. to < d)
