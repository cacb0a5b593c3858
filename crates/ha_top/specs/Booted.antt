-- A run that was booted, or for which memory did not suffice. (A stage of the code, no part of what it promises.)
use Rattle.std.specs.Prelude.{◌≡◌, ◌⊎◌, List, [], None}
use Rattle.ha_journal.specs.declared.entry.Entry.{Entry}
use Rattle.ha_model.specs.Records.{Records}
use Rattle.ha_status.specs.declared.status.Status.{Status}
use Rattle.bus_turn.specs.States.{Outside}
use Rattle.ha_worker.specs.Courses.{SourceState}
use Rattle.conf_auto.specs.Config.{config_in}
use Rattle.ha_run.specs.Core.{CoreRan}

-- memory ran out before the boot; the sources are handed back, and no trace
pub record IsUnbooted (old : Outside) (opened : List SourceState) (status : Status)
    (journal : List Entry) (records : Records) (sources : List SourceState) (out : Outside) : Type 0 where
  pub status_is : status ≡ Status.Memory
  pub no_entry : journal ≡ []
  pub no_record : records ≡ []
  pub handed_back : sources ≡ opened
  pub same : out ≡ record old { trace = None }

abbrev pub RanOrNot : Entry → Outside → List SourceState → Status → List Entry → Records → List SourceState → Outside → Type 0
RanOrNot boot old opened status journal records sources out =
    IsUnbooted old opened status journal records sources out ⊎ CoreRan config_in boot old opened status journal records sources out
