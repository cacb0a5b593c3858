use Rattle.std.proofs.Common.{◌≡◌, ◌<◌, ◌≤◌, ℕ, drop, length}
use Rattle.std.specs.Prelude.{fold}
use Rattle.ha_journal.specs.Journal.{Journal, last_place}
use Rattle.ha_model.specs.declared.record.EndCause.{EndCause}
use Rattle.run_modes.specs.Calls.{stop_turned}
use Rattle.engine_parts.specs.Kept.{Going, nobody}
use Rattle.engine_parts.specs.Records.{HasRoom, IsTable}
use Rattle.ha_engine.specs.Reloads.{unmarked}
use Rattle.ha_engine.proofs.reload.drop_unmarked.Given as goal

abbrev pub invariant-units : goal.invariant-units
invariant-units l = record {
  list : fold (stop_turned l.place EndCause.Reloaded) l.runs.list (unmarked l.unit (drop l.unit l.marks)) ≡ fold (stop_turned l.place EndCause.Reloaded) l.initial.runs.list (unmarked 0 l.marks);
  kept : (k : Journal) → l.place ≡ last_place k → 0 < length k → IsTable k l.initial.runs.list → Going nobody k l.initial.runs.list l.initial.parts → IsTable k l.runs.list × Going nobody k l.runs.list l.parts;
  closed : l.runs.closed ≡ l.initial.runs.closed;
  firsts : l.runs.firsts ≡ l.initial.runs.firsts;
  spare : l.initial.runs.spare ≤ l.runs.spare;
  room : (n : ℕ) → HasRoom n l.initial.parts → HasRoom n l.parts;
  rested : l.parts.rested ≡ l.initial.parts.rested;
}
