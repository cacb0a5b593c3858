-- What a run is handed, and what it leaves, as far as it is told.
use Rattle.std.specs.Prelude.{ℕ, List, Option}
use Rattle.ha_io.specs.declared.place.Opening.{Opening}
use Rattle.ha_io.specs.Told.{Call}
use Rattle.ha_journal.specs.declared.entry.Entry.{Entry}
use Rattle.ha_model.specs.Records.{Records}
use Rattle.ha_config.specs.Words.{Text}
use Rattle.ha_status.specs.Files.{Files}
use Rattle.ha_status.specs.declared.status.Status.{Status}
use Rattle.bus_turn.specs.States.{KeeperState, SinkState}
use Rattle.ha_worker.specs.Courses.{SourceState}

-- The bytes of a place's files, how often it has failed, the name of its last failure, and all that it was asked for. But for the count, as
-- far as it tells.
pub record PlaceState : Type 0 where
  pub files : Option Files
  pub faults : ℕ
  pub last : Option (Option (Text × Opening))
  pub asked : Option (List Call)

-- what a run is handed
pub record Before : Type 0 where
  pub place : PlaceState
  pub out : SinkState
  pub err : SinkState
  pub keep : KeeperState

-- what it leaves
pub record After : Type 0 where
  pub status : Status
  pub journal : List Entry
  pub records : Records
  pub sources : List SourceState
  pub place : PlaceState
  pub out : SinkState
  pub err : SinkState
  pub trace : Option SinkState
  pub kept_back : Option ℕ  -- the bytes that the trace's sink took and has not handed on
  pub keep : KeeperState

abbrev pub place_state : Option Files → ℕ → Option (Option (Text × Opening)) → Option (List Call) → PlaceState
place_state files faults last asked = record { files = files; faults = faults; last = last; asked = asked }

abbrev pub before_run : PlaceState → SinkState → SinkState → KeeperState → Before
before_run place out err keep = record { place = place; out = out; err = err; keep = keep }

abbrev pub after_run : Status → List Entry → Records → List SourceState
    → PlaceState → SinkState → SinkState → Option SinkState → Option ℕ → KeeperState → After
after_run status journal records sources place out err trace kept_back keep = record {
  status = status;
  journal = journal;
  records = records;
  sources = sources;
  place = place;
  out = out;
  err = err;
  trace = trace;
  kept_back = kept_back;
  keep = keep;
}
