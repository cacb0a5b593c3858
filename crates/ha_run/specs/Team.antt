-- The workers of a run: what is seen of each, and what they leave. (Stages of the code, no part of what it promises.)
use Rattle.std.specs.Prelude.{ℕ, suc, ◌≡◌, ◌<◌, ◌⊎◌, true, false, List, [], ◌∷◌, ◌++◌, length, map, Option, None, Some}
use Rattle.crossbeam_channel.specs.Claims.{view}
use Rattle.ha_config.specs.declared.command.Cmd.{Cmd}
use Rattle.ha_config.specs.declared.config.Config.{Config}
use Rattle.ha_config.specs.Fair.{prepared}
use Rattle.ha_journal.specs.Commands.{ArePutFrom}
use Rattle.ha_journal.specs.Journal.{Journal}
use Rattle.ha_whole.specs.Whole.{IsFull, Running, is_quiet}
use Rattle.ha_config.specs.Words.{Text}
use Rattle.ha_status.specs.declared.status.Status.{Status}
use Rattle.bus_turn.specs.declared.fault.BusFault.{BusFault}
use Rattle.bus_turn.specs.Shown.{BusView}
use Rattle.bus_pass.specs.declared.hand.Hand.{Hand}
use Rattle.bus_pass.specs.declared.hand.Origin.{Origin}
use Rattle.bus_pass.specs.Origins.{IsStored, origin_of}
use Rattle.bus_pass.specs.Rule.{both}
use Rattle.ha_worker.specs.declared.end.WorkerEnd.{WorkerEnd}
use Rattle.ha_worker.specs.declared.worker.Worker.{Worker}
use Rattle.ha_worker.specs.Courses.{Course, HasGiven, SourceState, cmds_by}
use Rattle.ha_worker.specs.Views.{IsFresh}
use Rattle.ha_worker.specs.Worked.{Worked}
use Rattle.ha_run.specs.Served.{Each, Feed, IsOf, OwesLine, OwesRestart}

-- ---- the status

-- the status by a first fault of the bus
abbrev pub status_of : BusFault → Status
status_of (BusFault.Write zero) = Status.WriteFault zero
status_of BusFault.Keep = Status.KeepFault
status_of BusFault.Full = Status.JournalFull
status_of BusFault.Memory = Status.Memory

-- the status by the ends of the workers, from worker k on: that of the first that was lost or too long
abbrev pub told_by : ℕ → List (Option WorkerEnd) → Status
told_by k [] = Status.Ok
told_by k (Some WorkerEnd.Ended ∷ ends) = told_by (suc k) ends
told_by k (Some WorkerEnd.Lost ∷ ends) = Status.ReadFault (Some k)
told_by k (Some WorkerEnd.TooLong ∷ ends) = Status.SourceTooLong k
told_by k (Some WorkerEnd.Stopped ∷ ends) = Status.Memory
told_by k (Some WorkerEnd.Memory ∷ ends) = Status.Memory
told_by k (None ∷ ends) = Status.Memory

-- ---- the workers

-- what is seen of a worker
pub record Seat : Type 0 where
  pub id : ℕ
  pub next : ℕ
  pub end : Option WorkerEnd
  pub source : SourceState
  pub hand : Hand

abbrev pub seat : ℕ → ℕ → Option WorkerEnd → SourceState → Hand → Seat
seat id next end source hand = record { id = id; next = next; end = end; source = source; hand = hand }

abbrev pub seat_of : {S C K Q P : Type 0} → (S → SourceState) → Worker S C K Q P → Seat
seat_of state w = seat w.id w.next w.end (state w.source) (view w.pass)

-- before its work
pub record IsReady (k : ℕ) (source : SourceState) (s : Seat) : Type 0 where
  pub id : s.id ≡ k
  pub next : s.next ≡ 0
  pub end : s.end ≡ None
  pub source_is : s.source ≡ source
  pub fresh : IsFresh k s.hand

-- so each, by its source, from worker k on
abbrev pub AreReady : ℕ → List SourceState → List Seat → Type 0
AreReady k [] [] = Unit {0}
AreReady k (source ∷ sources) (s ∷ seats) = IsReady k source s × AreReady (suc k) sources seats
AreReady k sources seats = ⊥

-- a worker may go to work
pub record IsAble (s : Seat) : Type 0 where
  pub known : s.id < 16
  pub fresh : IsFresh s.id s.hand
  pub next : s.next ≡ 0
  pub end : s.end ≡ None

-- what its work makes of it
pub record Works (reading : Text → Option Config) (old new : Seat) : Type 0 where
  pub end : WorkerEnd
  pub end_is : new.end ≡ Some end
  pub worked : Worked reading old.id end new.hand old.source new.source

-- after its work
pub record IsDone (reading : Text → Option Config) (k : ℕ) (before : SourceState) (s : Seat) : Type 0 where
  pub end : WorkerEnd
  pub end_is : s.end ≡ Some end
  pub worked : Worked reading k end s.hand before s.source

abbrev pub AreDone : (Text → Option Config) → ℕ → List SourceState → List Seat → Type 0
AreDone reading k [] [] = Unit {0}
AreDone reading k (source ∷ sources) (s ∷ seats) = IsDone reading k source s × AreDone reading (suc k) sources seats
AreDone reading k sources seats = ⊥

-- the first pass, after it has split off n, when it has taken in none
pub record IsLead (n : ℕ) (origin : Origin) (v : Hand) : Type 0 where
  pub first : v.first ≡ true
  pub made : v.made ≡ n
  pub alone : v.stands ≡ []
  pub idle : v.taken ≡ None
  pub unnoted : v.noted ≡ None
  pub undue : v.dues ≡ []
  pub origin_is : v.origin ≡ Some origin

-- the pass of a worker, which does not hold the bus
pub record IsLater (v : Hand) : Type 0 where
  pub later : v.first ≡ false
  pub idle : v.taken ≡ None

-- what the first pass knows when it has taken in those of the workers, in order
abbrev pub joined : Hand → List Seat → Hand
joined v [] = v
joined v (s ∷ seats) = joined (both v s.hand) seats

-- ---- what they leave

-- how a worker ended, by what became of its source
abbrev pub IsOver : WorkerEnd → Feed → Type 0
IsOver WorkerEnd.Ended feed = (feed.course ≡ Course.Ends) × (feed.unput ≡ [])
IsOver WorkerEnd.Lost feed = (feed.course ≡ Course.Fails) × (feed.unput ≡ [])
IsOver WorkerEnd.TooLong feed = (feed.course ≡ Course.Exceeds) × (feed.unput ≡ [])
IsOver WorkerEnd.Stopped feed = ⊥
IsOver WorkerEnd.Memory feed = ⊥

-- Source k was read, and its lines were put, each Reload with what its text is read as. Where the bus keeps no fault, its worker came to an end.
pub record IsWorked (reading : Text → Option Config) (journal : Journal) (first : Option BusFault) (k : ℕ)
    (before after : SourceState) (end : Option WorkerEnd) (feed : Feed) : Type 0 where
  pub bytes : Text
  pub put : List Cmd
  pub given : HasGiven feed.course bytes before after
  pub cmds_are : cmds_by feed.course bytes ≡ put ++ feed.unput
  pub puts : ArePutFrom k journal (map (prepared reading) put)
  pub over : first ≡ None → (e : WorkerEnd) × (end ≡ Some e) × IsOver e feed

abbrev pub AreWorked : (Text → Option Config) → Journal → Option BusFault → ℕ → List SourceState → List SourceState → List (Option WorkerEnd) → List Feed → Type 0
AreWorked reading journal first k [] [] [] [] = Unit {0}
AreWorked reading journal first k (s ∷ before) (t ∷ after) (e ∷ ends) (f ∷ feeds) =
    IsWorked reading journal first k s t e f × AreWorked reading journal first (suc k) before after ends feeds
AreWorked reading journal first k before after ends feeds = ⊥

-- the bus went round among the workers
pub record WentRound (reading : Text → Option Config) (base b : BusView) (before after : List SourceState) (ends : List (Option WorkerEnd)) : Type 0 where
  pub feeds : List Feed
  pub worked : AreWorked reading b.journal b.first 0 before after ends feeds
  pub named : Each (IsOf (length before)) b.journal
  pub running : Running b.journal b.records
  pub same : origin_of b ≡ origin_of base
  pub stored : IsStored b
  pub due : b.first ≡ Some BusFault.Full
      → (IsFull b.journal × ((is_quiet b.records b.journal ≡ false) ⊎ OwesLine feeds)) ⊎ OwesRestart feeds

-- or it did not, since it had stopped before, or memory ran out
pub record StoodStill (base b : BusView) (before after : List SourceState) : Type 0 where
  pub same : b ≡ record base { first = b.first }
  pub same_sources : after ≡ before
  pub fault : (b.first ≡ None) → ⊥
  pub stopped : (f : BusFault) → b.first ≡ Some f → (base.first ≡ Some f) ⊎ ((base.first ≡ None) × (f ≡ BusFault.Memory))

abbrev pub Teamed : (Text → Option Config) → BusView → BusView → List SourceState → List SourceState → List (Option WorkerEnd) → Type 0
Teamed reading base b before after ends = WentRound reading base b before after ends ⊎ StoodStill base b before after
