-- What the closing steps leave.
use Rattle.std.specs.Prelude.{◌≡◌, true, List, [], ◌++◌}
use Rattle.std.specs.List.{list_all}
use Rattle.ha_journal.specs.declared.entry.Entry.{Entry}
use Rattle.ha_model.specs.Lawful.{is_by_worker_0}
use Rattle.ha_whole.specs.Whole.{Lawful}
use Rattle.bus_turn.specs.Growth.{OutGrows}
use Rattle.bus_turn.specs.Shown.{BusView}

-- steps of worker 0 come behind, and the journal is lawful
pub record Closed (old new : BusView) : Type 0 where
  pub later : List Entry
  pub behind : new.journal ≡ old.journal ++ later
  pub steps : list_all is_by_worker_0 later ≡ true
  pub lawful : Lawful new.journal new.records
  pub grows : OutGrows old.out new.out
  pub untouched : later ≡ [] → new.out ≡ old.out
