-- What a bus always is, and what a put makes of it.
use Rattle.std.specs.Prelude.{◌≡◌, ◌⊎◌, ◌<◌, ◌++◌, ℕ, List, [], Bool, true, false, Option, Some, None, IfSome, IsSomeAnd}
use Rattle.ha_journal.specs.declared.entry.Entry.{Entry}
use Rattle.ha_config.specs.Words.{Text}
use Rattle.ha_journal.specs.Journal.{Journal}
use Rattle.ha_journal.specs.declared.entry.Entry.TheVariants.{Step}
use Rattle.ha_sight.specs.declared.item.Item.{Item}
use Rattle.ha_model.specs.Lawful.{pick}
use Rattle.ha_journal.specs.EntryText.{error_text}
use Rattle.ha_whole.specs.Trace.{call_text, trace_text}
use Rattle.ha_whole.specs.Whole.{CannotRestart, HasRoom, IsFull, IsWithin, LacksRoom, Right, put, ready, store_text}
use Rattle.bus_turn.specs.declared.fault.BusFault.{BusFault}
use Rattle.bus_turn.specs.States.{SinkState, KeeperState, Outside}
use Rattle.bus_turn.specs.Writes.{Shows}
use Rattle.bus_turn.specs.Shown.{BusView, texts_of}

-- a sink that tells took exactly this text
abbrev pub HasTaken : Text → SinkState → Type 0
HasTaken text s = IfSome s.took (λ t. t ≡ text)

-- a keeper that tells holds the store's text of this journal
abbrev pub HoldsStore : Journal → KeeperState → Type 0
HoldsStore j k = IfSome k.kept (λ t. t ≡ Some (store_text j))

-- all of the journal is written
pub record IsWritten (b : BusView) : Type 0 where
  pub calls : HasTaken (call_text b.journal b.records) b.out.calls
  pub errors : HasTaken (error_text b.journal) b.out.errors
  pub trace : IfSome b.out.trace (HasTaken (trace_text b.journal false))
  pub keep : HoldsStore b.journal b.out.keep

-- the text stands between two others: it is the first with something behind it, and the second has what is missing
pub record IsBetween (done text whole : Text) : Type 0 where
  pub more_done : Text
  pub missing : Text
  pub begins : text ≡ done ++ more_done
  pub ends : whole ≡ text ++ missing

abbrev pub HasTakenFront : Text → Text → SinkState → Type 0
HasTakenFront done whole s = IfSome s.took (λ t. IsBetween done t whole)

-- all is written but for a part of the last put. At the boot alone the keeper may also hold what it held before
pub record IsCut (b : BusView) : Type 0 where
  pub before : Journal
  pub last : Entry
  pub is : b.journal ≡ put before last
  pub calls : HasTakenFront (call_text before b.records) (call_text b.journal b.records) b.out.calls
  pub errors : HasTakenFront (error_text before) (error_text b.journal) b.out.errors
  pub trace : IfSome b.out.trace (HasTakenFront (trace_text before false) (trace_text b.journal false))
  pub keep : (before ≡ []) ⊎ (HoldsStore before b.out.keep ⊎ HoldsStore b.journal b.out.keep)

-- a sink's counts tell that it failed so
abbrev pub SinkFailed : BusFault → SinkState → Type 0
SinkFailed (BusFault.Write false) s = 0 < s.faults
SinkFailed (BusFault.Write true) s = 0 < s.zeros
SinkFailed BusFault.Keep s = ⊥
SinkFailed BusFault.Full s = ⊥
SinkFailed BusFault.Memory s = ⊥

abbrev pub KeeperFailed : BusFault → KeeperState → Type 0
KeeperFailed BusFault.Keep k = 0 < k.faults
KeeperFailed (BusFault.Write zero) k = ⊥
KeeperFailed BusFault.Full k = ⊥
KeeperFailed BusFault.Memory k = ⊥

-- the counts of one part tell that the outside failed so
abbrev pub HasCause : BusFault → Outside → Type 0
HasCause fault o =
    SinkFailed fault o.calls ⊎ (SinkFailed fault o.errors ⊎ (IsSomeAnd o.trace (SinkFailed fault) ⊎ KeeperFailed fault o.keep))

-- how a bus stands by its first fault
abbrev pub Stands : BusView → Option BusFault → Type 0
Stands b None = (b.is_spent ≡ false) × IsWritten b
Stands b (Some BusFault.Full) = IsWritten b × (IsFull b.journal ⊎ CannotRestart b.journal)
Stands b (Some (BusFault.Write zero)) = IsCut b × HasCause (BusFault.Write zero) b.out
Stands b (Some BusFault.Keep) = IsCut b × HasCause BusFault.Keep b.out
Stands b (Some BusFault.Memory) = IsCut b

pub record IsBus (b : BusView) : Type 0 where
  pub right : Right b.journal b.records
  pub room : IsWithin b.journal
  pub stands : Stands b b.first

-- nothing was put, for this reason
abbrev pub IsRefusal : Option BusFault → Type 0
IsRefusal (Some BusFault.Full) = Unit {0}
IsRefusal (Some BusFault.Memory) = Unit {0}
IsRefusal _ = ⊥

-- such an entry is put, and its texts are written as far as no fault comes
pub record Adds (restarts : Bool) (IsIt : Entry → Type 0) (old new : BusView) : Type 0 where
  pub entry : Entry
  pub is_it : IsIt entry
  pub room : HasRoom old.journal restarts
  pub journal : new.journal ≡ put old.journal entry
  pub shown : Shows (texts_of new.records old.journal entry) old.out new.first new.out

-- nothing is put, and nothing written; full is a journal that lacks room for it
pub record Refuses (restarts : Bool) (old new : BusView) : Type 0 where
  pub refusal : IsRefusal new.first
  pub full : new.first ≡ Some BusFault.Full → LacksRoom old.journal restarts
  pub journal : new.journal ≡ old.journal
  pub records : new.records ≡ old.records
  pub out : new.out ≡ old.out

-- what one put makes of a bus, of such an entry, be it a Restart or none
abbrev pub Puts : Bool → (Entry → Type 0) → BusView → BusView → Type 0
Puts restarts IsIt old new = Adds restarts IsIt old new ⊎ Refuses restarts old new

-- the entry is a step of the worker: of the ready pairs the one at the place of its number
pub record IsStep (worker : ℕ) (old : BusView) (x : Entry) : Type 0 where
  pub serial : ℕ
  pub branch : List ℕ
  pub item : Item
  pub picked : pick worker (ready old.records old.journal) ≡ Some (serial, branch)
  pub is : x ≡ Step worker serial branch item
