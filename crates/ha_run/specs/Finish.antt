-- How a run ends, once the bus has gone round. (Stages of the code, no part of what it promises.)
use Rattle.std.specs.Prelude.{◌≡◌, ◌⊎◌, true, false, List, Option, None, Some}
use Rattle.ha_journal.specs.declared.entry.Entry.{Entry}
use Rattle.ha_whole.specs.Whole.{IsFull, is_quiet}
use Rattle.ha_model.specs.Records.{Records}
use Rattle.ha_status.specs.declared.status.Status.{Status}
use Rattle.bus_turn.specs.declared.fault.BusFault.{BusFault}
use Rattle.bus_turn.specs.Buses.{IsBus}
use Rattle.bus_turn.specs.Ends.{Ends, HasEnded}
use Rattle.bus_turn.specs.Shown.{BusView}
use Rattle.bus_turn.specs.States.{Outside}
use Rattle.ha_worker.specs.Closing.{Closed}
use Rattle.ha_run.specs.Team.{status_of}

-- the status behind the end line of the trace
abbrev pub ended_status : Option BusFault → Status → Status
ended_status None told = told
ended_status (Some fault) told = status_of fault

module _ (told status : Status) (journal : List Entry) (records : Records) (out : Outside) where
  -- the bus keeps a fault, and is left as it is
  pub record IsStop (b : BusView) : Type 0 where
    pub fault : BusFault
    pub bus : IsBus b
    pub is : b.first ≡ Some fault
    pub status_is : status ≡ status_of fault
    pub journal_is : journal ≡ b.journal
    pub records_are : records ≡ b.records
    pub out_is : out ≡ b.out

  -- it keeps none, no run can go on, and the trace is ended
  pub record IsEnd (b : BusView) : Type 0 where
    pub first : Option BusFault
    pub bus : IsBus b
    pub free : b.first ≡ None
    pub quiet : is_quiet b.records b.journal ≡ true
    pub ends : Ends b.journal b.out first out
    pub has : HasEnded b.journal first out.trace
    pub status_is : status ≡ ended_status first told
    pub journal_is : journal ≡ b.journal
    pub records_are : records ≡ b.records

  abbrev pub StopsOrEnds : BusView → Type 0
  StopsOrEnds b = IsStop b ⊎ IsEnd b

-- the closing steps were put, where the bus kept no fault
pub record DidClose (old new : BusView) : Type 0 where
  pub free : old.first ≡ None
  pub closed : Closed old new
  pub owes : new.first ≡ Some BusFault.Full → IsFull new.journal × (is_quiet new.records new.journal ≡ false)
  pub quiet : new.first ≡ None → is_quiet new.records new.journal ≡ true

pub record DidNot (old new : BusView) : Type 0 where
  pub fault : (old.first ≡ None) → ⊥
  pub same : new ≡ old

abbrev pub MayClose : BusView → BusView → Type 0
MayClose old new = DidClose old new ⊎ DidNot old new

-- the closing steps, and then the end
abbrev pub Finishes : Status → Status → List Entry → Records → Outside → BusView → Type 0
Finishes told status journal records out b = (last : BusView) × MayClose b last × StopsOrEnds told status journal records out last
