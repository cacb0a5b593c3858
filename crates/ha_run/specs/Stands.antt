-- What stands at each status of a run.
use Rattle.std.specs.Prelude.{◌≡◌, ◌⊎◌, true, false, List, [], length, Option, Some, None}
use Rattle.ha_config.specs.declared.config.Config.{Config}
use Rattle.ha_journal.specs.declared.entry.Entry.{Entry}
use Rattle.ha_journal.specs.Commands.{AreRead}
use Rattle.ha_whole.specs.Whole.{CannotRestart, IsFull, IsWithin, Lawful, is_quiet}
use Rattle.ha_model.specs.Records.{Records}
use Rattle.ha_config.specs.Words.{Text}
use Rattle.ha_status.specs.declared.status.Status.{Status}
use Rattle.ha_status.specs.Files.{Files}
use Rattle.ha_worker.specs.Courses.{Course, SourceState}
use Rattle.ha_run.specs.Served.{AreOpened, AreServed, Each, Feed, IsEnded, IsFirst, IsOf, IsThrough, OwesLine, OwesRestart}

-- what a run leaves of its journal and its sources; the names are those of its words, and the files those of its place, where they are told
pub record Scene : Type 0 where
  pub files : Option Files
  pub names : List Text
  pub journal : List Entry
  pub records : Records
  pub sources : List SourceState

-- what texts of configurations are read as; the journal begins as it must
module _ (reading : Text → Option Config) (Begins : List Entry → Type 0) where
  -- The journal is lawful with its records and within its bounds, the configuration of each Reload is the one that its text is read as, and
  -- each entry is of a source that was named. The lines of each source are put from the commands of the bytes that were read of it.
  pub record Ran (s : Scene) (feeds : List Feed) : Type 0 where
    pub begins : Begins s.journal
    pub lawful : Lawful s.journal s.records
    pub read : AreRead reading s.journal
    pub room : IsWithin s.journal
    pub named : Each (IsOf (length s.names)) s.journal
    pub served : AreServed reading s.files s.journal 0 s.names s.sources feeds

  -- all sources are through, and no run can go on
  pub record RanThrough (s : Scene) (feeds : List Feed) : Type 0 where
    pub ran : Ran s feeds
    pub through : Each IsThrough feeds
    pub quiet : is_quiet s.records s.journal ≡ true

  -- an entry was due that had no room: the last segment or the journal is full, and a step or a line was due, or that a source was lost or
  -- is too long; or a Restart was due for which, with its Again, there is no room
  pub record RanFull (s : Scene) : Type 0 where
    pub feeds : List Feed
    pub ran : Ran s feeds
    pub full : (IsFull s.journal × ((is_quiet s.records s.journal ≡ false) ⊎ OwesLine feeds)) ⊎ (CannotRestart s.journal × OwesRestart feeds)

  -- the run was cut: all is as far as it came
  pub record RanSome (s : Scene) : Type 0 where
    pub feeds : List Feed
    pub ran : Ran s feeds

-- nothing was booted; the sources that were opened are the first ones
pub record RanNothing (s : Scene) : Type 0 where
  pub no_entry : s.journal ≡ []
  pub no_record : s.records ≡ []
  pub opened : AreOpened s.names s.sources

-- nothing was booted, and no source was opened
pub record OpenedNone (s : Scene) : Type 0 where
  pub no_entry : s.journal ≡ []
  pub no_record : s.records ≡ []
  pub no_source : s.sources ≡ []

-- nothing was booted, and the source of the configuration alone is there
pub record NotRead (s : Scene) : Type 0 where
  pub no_entry : s.journal ≡ []
  pub no_record : s.records ≡ []
  pub one : length s.sources ≡ 1

-- What was written of a journal: all that is due, with the end of the trace; all of it, but of that end a front at most; all but that end;
-- all but that end and a part of what the last entry gives; nothing.
pub record Writings : Type 1 where
  pub Ended : Type 0
  pub EndCut : Type 0
  pub Whole : Type 0
  pub Part : Type 0
  pub Nothing : Type 0

-- What stands at each status.
module _ (reading : Text → Option Config) (Begins : List Entry → Type 0) (s : Scene) (w : Writings) where
  -- a fault cut the run; or all sources were through and no run could go on, and the fault came no earlier than at the end of the trace
  abbrev pub IsCutShort : Type 0
  IsCutShort = (w.Part × RanSome reading Begins s) ⊎ (w.EndCut × ((feeds : List Feed) × RanThrough reading Begins s feeds))

  abbrev pub StandsAt : Status → Type 0
  StandsAt Status.Ok = w.Ended × ((feeds : List Feed) × RanThrough reading Begins s feeds × Each IsEnded feeds)
  StandsAt Status.Usage = ⊥
  StandsAt (Status.ConfigRefused line code) = w.Nothing × OpenedNone s
  StandsAt (Status.OpenFault name) = w.Nothing × RanNothing s
  StandsAt (Status.ReadFault None) = w.Nothing × NotRead s
  StandsAt (Status.ReadFault (Some k)) = w.Ended × ((feeds : List Feed) × RanThrough reading Begins s feeds × IsFirst Course.Fails k feeds)
  StandsAt (Status.WriteFault zero) = IsCutShort
  StandsAt Status.KeepFault = (w.Nothing × OpenedNone s) ⊎ (w.Part × RanSome reading Begins s)
  StandsAt Status.JournalFull = w.Whole × RanFull reading Begins s
  StandsAt (Status.SourceTooLong k) = w.Ended × ((feeds : List Feed) × RanThrough reading Begins s feeds × IsFirst Course.Exceeds k feeds)
  StandsAt (Status.StoreRefused code) = w.Nothing × OpenedNone s
  StandsAt Status.Memory = (w.Nothing × (RanNothing s ⊎ NotRead s)) ⊎ IsCutShort
  StandsAt (Status.TraceRefused line) = ⊥
