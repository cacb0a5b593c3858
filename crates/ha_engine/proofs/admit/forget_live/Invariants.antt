use Rattle.std.proofs.Common.{ℕ, take}
use Rattle.ha_journal.specs.Journal.{Journal, last_place}
use Rattle.run_modes.specs.Table.{live_of}
use Rattle.ha_engine.specs.Admits.{are_in}
use Rattle.engine_parts.specs.Kept.{Going, nobody}
use Rattle.engine_parts.specs.Records.{HasRoom, IsTable}
use Rattle.std.proofs.Common.{◌≡◌}
use Rattle.ha_engine.proofs.admit.forget_live.Given as goal

abbrev pub invariant-runs : goal.invariant-runs
invariant-runs l = record {
  going : (k : Journal) → l.place ≡ last_place k → IsTable k l.runs.list → Going nobody k l.runs.list l.initial.parts → Going (are_in (take l.at (live_of l.automation l.runs.list))) k l.runs.list l.parts;
  room : (n : ℕ) → HasRoom n l.initial.parts → HasRoom n l.parts;
  rested : l.parts.rested ≡ l.initial.parts.rested;
}
