use Rattle.std.proofs.Common.{◌≡◌, ◌<◌, ◌≤◌, ℕ, length, drop}
use Rattle.ha_journal.specs.Journal.{Journal, last_place}
use Rattle.engine_parts.specs.Kept.{Going, nobody}
use Rattle.engine_parts.specs.Records.{HasRoom, IsTable}
use Rattle.engine_entry.specs.Stepping.{stops_each}
use Rattle.ha_engine.proofs.step_conclude.stop_targets.Given as goal

abbrev pub invariant-targets : goal.invariant-targets
invariant-targets l = record {
  list : stops_each l.place (drop l.target-index l.targets) l.runs.list ≡ stops_each l.place l.targets l.initial.runs.list;
  kept : (k : Journal) → l.place ≡ last_place k → 0 < length k → IsTable k l.initial.runs.list → Going nobody k l.initial.runs.list l.initial.parts → IsTable k l.runs.list × Going nobody k l.runs.list l.parts;
  closed : l.runs.closed ≡ l.initial.runs.closed;
  firsts : l.runs.firsts ≡ l.initial.runs.firsts;
  spare : l.initial.runs.spare ≤ l.runs.spare;
  room : (n : ℕ) → HasRoom n l.initial.parts → HasRoom n l.parts;
  rested : l.parts.rested ≡ l.initial.parts.rested;
}
