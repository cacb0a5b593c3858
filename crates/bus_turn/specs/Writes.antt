-- What is written of one put, and what a fault leaves.
use Rattle.std.specs.Prelude.{◌≡◌, ◌≤◌, ◌⊎◌, true, false, Option, None, Some, Result, Ok, Err}
use Rattle.ha_io.specs.Counts.{Rose}
use Rattle.ha_io.specs.Told.{Takes, told_as}
use Rattle.ha_io.specs.Whole.{IsFrontTaken}
use Rattle.ha_whole.specs.declared.faults.CoreFault.{CoreFault}
use Rattle.ha_config.specs.Words.{Text}
use Rattle.bus_turn.specs.declared.fault.BusFault.{BusFault}
use Rattle.bus_turn.specs.States.{SinkState, KeeperState, Outside}

-- the fault of a call, if it has one
abbrev pub fault_of : {Y : Type 0} → Result Y BusFault → Option BusFault
fault_of (Ok y) = None
fault_of (Err fault) = Some fault

-- the fault that is kept for a put that was refused
abbrev pub refusal : CoreFault → BusFault
refusal CoreFault.Full = BusFault.Full
refusal CoreFault.Memory = BusFault.Memory

-- ---- one sink

-- it took this text
pub record Took (text : Text) (before after : SinkState) : Type 0 where
  pub took : Takes before.took text after.took
  pub faults_stay : before.faults ≤ after.faults
  pub zeros_stay : before.zeros ≤ after.zeros
  pub same_name : after.name ≡ before.name

-- it took a front of this text
pub record TookFront (text : Text) (before after : SinkState) : Type 0 where
  pub front : IsFrontTaken before.took text after.took
  pub faults_stay : before.faults ≤ after.faults
  pub zeros_stay : before.zeros ≤ after.zeros
  pub same_name : after.name ≡ before.name

-- why a sink was not given the whole of a text: it failed, or took no byte of a piece, as its counts tell; or memory ran out
abbrev pub SinkCause : BusFault → SinkState → SinkState → Type 0
SinkCause (BusFault.Write false) before after = Rose before.faults after.faults
SinkCause (BusFault.Write true) before after = Rose before.zeros after.zeros
SinkCause BusFault.Keep before after = ⊥
SinkCause BusFault.Full before after = ⊥
SinkCause BusFault.Memory before after = Unit {0}

abbrev pub Writes : Text → SinkState → Option BusFault → SinkState → Type 0
Writes text before None after = Took text before after
Writes text before (Some fault) after = TookFront text before after × SinkCause fault before after

-- it took nothing: what it took before is handed on, or the outside failed
pub record Stays (before after : SinkState) : Type 0 where
  pub took : after.took ≡ before.took
  pub faults_stay : before.faults ≤ after.faults
  pub zeros_stay : before.zeros ≤ after.zeros
  pub same_name : after.name ≡ before.name

abbrev pub Hands : SinkState → Option BusFault → SinkState → Type 0
Hands before None after = Stays before after
Hands before (Some fault) after = Stays before after × SinkCause fault before after

-- ---- the trace's sink, where there is one

abbrev pub TookIn : Text → Option SinkState → Option SinkState → Type 0
TookIn text None None = Unit {0}
TookIn text (Some before) (Some after) = Took text before after
TookIn text _ _ = ⊥

abbrev pub WritesIn : Text → Option SinkState → Option BusFault → Option SinkState → Type 0
WritesIn text before None after = TookIn text before after
WritesIn text (Some before) (Some fault) (Some after) = TookFront text before after × SinkCause fault before after
WritesIn text _ (Some fault) _ = ⊥

-- ---- the keeper

pub record Saved (text : Text) (before after : KeeperState) : Type 0 where
  pub kept : after.kept ≡ told_as before.kept (Some text)
  pub faults_stay : before.faults ≤ after.faults

-- it holds what it held, or this text
pub record MaySave (text : Text) (before after : KeeperState) : Type 0 where
  pub kept : (after.kept ≡ before.kept) ⊎ (after.kept ≡ told_as before.kept (Some text))
  pub faults_stay : before.faults ≤ after.faults

-- why a text was not saved: the keeper failed, as its count tells; or memory ran out
abbrev pub KeeperCause : BusFault → KeeperState → KeeperState → Type 0
KeeperCause BusFault.Keep before after = Rose before.faults after.faults
KeeperCause BusFault.Memory before after = Unit {0}
KeeperCause (BusFault.Write zero) before after = ⊥
KeeperCause BusFault.Full before after = ⊥

-- a text is saved, where there is one to save
abbrev pub Saves : Option Text → KeeperState → Option BusFault → KeeperState → Type 0
Saves None before None after = after ≡ before
Saves (Some text) before None after = Saved text before after
Saves None before (Some fault) after = ⊥
Saves (Some text) before (Some fault) after = MaySave text before after × KeeperCause fault before after

-- ---- all of one put

-- the texts that a put gives: its call line, its error line and its lines in the trace, and the store's text, where it is to be saved
pub record EntryTexts : Type 0 where
  pub calls : Text
  pub errors : Text
  pub trace : Text
  pub store : Option Text

abbrev pub entry_texts : Text → Text → Text → Option Text → EntryTexts
entry_texts calls errors trace store = record { calls = calls; errors = errors; trace = trace; store = store }

-- all is written, in this order: call, error, trace, store; after a fault nothing further is
abbrev pub Shows : EntryTexts → Outside → Option BusFault → Outside → Type 0
Shows texts before None after =
    Writes texts.calls before.calls None after.calls × Writes texts.errors before.errors None after.errors
    × WritesIn texts.trace before.trace None after.trace × Saves texts.store before.keep None after.keep
Shows texts before (Some fault) after =
    (Writes texts.calls before.calls (Some fault) after.calls
    × (after.errors ≡ before.errors) × (after.trace ≡ before.trace) × (after.keep ≡ before.keep))
    ⊎ ((Writes texts.calls before.calls None after.calls × Writes texts.errors before.errors (Some fault) after.errors
    × (after.trace ≡ before.trace) × (after.keep ≡ before.keep))
    ⊎ ((Writes texts.calls before.calls None after.calls × Writes texts.errors before.errors None after.errors
    × WritesIn texts.trace before.trace (Some fault) after.trace × (after.keep ≡ before.keep))
    ⊎ (Writes texts.calls before.calls None after.calls × Writes texts.errors before.errors None after.errors
    × WritesIn texts.trace before.trace None after.trace × Saves texts.store before.keep (Some fault) after.keep)))
