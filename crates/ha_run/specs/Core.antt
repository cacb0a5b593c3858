-- What a run of a booted core leaves of what lies outside, before the status line.
use Rattle.std.specs.Prelude.{ℕ, ◌≡◌, ◌⊎◌, true, false, List, [], ◌∷◌, Option, None, Some, IfSome, is_some}
use Rattle.ha_config.specs.declared.config.Config.{Config}
use Rattle.ha_journal.specs.declared.entry.Entry.{Entry}
use Rattle.ha_model.specs.Records.{Records}
use Rattle.ha_journal.specs.EntryText.{error_text}
use Rattle.ha_status.specs.declared.status.Status.{Status}
use Rattle.ha_status.specs.Files.{Files}
use Rattle.ha_config.specs.Words.{Text}
use Rattle.bus_turn.specs.declared.fault.BusFault.{BusFault}
use Rattle.bus_turn.specs.Buses.{HasCause, HasTaken, HasTakenFront, HoldsStore, IsCut, IsWritten}
use Rattle.bus_turn.specs.Shown.{BusView, bus_view}
use Rattle.bus_turn.specs.States.{Outside, SinkState}
use Rattle.ha_worker.specs.Courses.{SourceState}
use Rattle.ha_run.specs.Opened.{AreNew}
use Rattle.ha_run.specs.Stands.{StandsAt, Writings}
use Rattle.ha_whole.specs.Trace.{call_text, trace_text}

-- ---- what was written

-- the journal and its records with what lies outside
abbrev pub view_of : List Entry → Records → Outside → BusView
view_of journal records out = bus_view journal records false out None

-- all is written, and of the trace this
pub record IsWrittenWith (OfTrace : SinkState → Type 0) (b : BusView) : Type 0 where
  pub calls : HasTaken (call_text b.journal b.records) b.out.calls
  pub errors : HasTaken (error_text b.journal) b.out.errors
  pub trace : IfSome b.out.trace OfTrace
  pub keep : HoldsStore b.journal b.out.keep

-- all is written, the trace with its end line
abbrev pub IsEndWritten : BusView → Type 0
IsEndWritten b = IsWrittenWith (HasTaken (trace_text b.journal true)) b

-- all is written, but of the trace's end line a front at most
abbrev pub IsEndCut : BusView → Type 0
IsEndCut b = IsWrittenWith (HasTakenFront (trace_text b.journal false) (trace_text b.journal true)) b

-- all is written but for the end of the trace and a part of what the last entry gives; at the boot alone the keeper may hold what it held
-- before
pub record IsCutFrom (before : Outside) (b : BusView) : Type 0 where
  pub cut : IsCut b
  pub store : cut.before ≡ [] → (b.out.keep.kept ≡ before.keep.kept) ⊎ HoldsStore b.journal b.out.keep

-- so, or all is written but for the end of the trace
abbrev pub IsPartWritten : Outside → BusView → Type 0
IsPartWritten before b = IsWritten b ⊎ IsCutFrom before b

abbrev pub writings : Outside → BusView → Writings
writings before b =
    record { Ended = IsEndWritten b; EndCut = IsEndCut b; Whole = IsWritten b; Part = IsPartWritten before b; Nothing = ⊥ }

-- ---- what stays of what lies outside

-- the sink has its name, and what it took is told as before
pub record SameSink (before after : SinkState) : Type 0 where
  pub told : is_some after.took ≡ is_some before.took
  pub same_name : after.name ≡ before.name

abbrev pub SameTrace : Option SinkState → Option SinkState → Type 0
SameTrace None None = Unit {0}
SameTrace (Some before) (Some after) = SameSink before after
SameTrace _ _ = ⊥

-- these are the sinks and the keeper of before
pub record SameOutside (before after : Outside) : Type 0 where
  pub calls : SameSink before.calls after.calls
  pub errors : SameSink before.errors after.errors
  pub trace : SameTrace before.trace after.trace
  pub keep : is_some after.keep.kept ≡ is_some before.keep.kept

-- where the run came to its end, the trace's sink, where there is one, keeps none of the bytes that it took
abbrev pub IsHandedOn : Option ℕ → Status → Type 0
IsHandedOn None status = Unit {0}
IsHandedOn (Some kept) Status.Ok = kept ≡ 0
IsHandedOn (Some kept) (Status.ReadFault source) = kept ≡ 0
IsHandedOn (Some kept) (Status.SourceTooLong source) = kept ≡ 0
IsHandedOn (Some kept) status = Unit {0}

-- ---- a run

abbrev pub BeginsWith : Entry → List Entry → Type 0
BeginsWith boot journal = (later : List Entry) × (journal ≡ boot ∷ later)

-- a write or the keeper failed, as the counts of the outside tell
abbrev pub OutCause : Status → Outside → Type 0
OutCause (Status.WriteFault zero) out = HasCause (BusFault.Write zero) out
OutCause Status.KeepFault out = HasCause BusFault.Keep out
OutCause status out = Unit {0}

-- A core that was booted so ran on sources that are these before: what stands at its status, whatever the files and the names are for which
-- the sources were opened.
pub record CoreRan (reading : Text → Option Config) (boot : Entry) (before : Outside) (opened : List SourceState) (status : Status)
    (journal : List Entry) (records : Records) (sources : List SourceState) (after : Outside) : Type 0 where
  pub stands : (files : Option Files) (names : List Text) → AreNew files names opened
      → StandsAt reading (BeginsWith boot) (record { files = files; names = names; journal = journal; records = records; sources = sources })
      (writings before (view_of journal records after)) status
  pub same : SameOutside before after
  pub cause : OutCause status after
