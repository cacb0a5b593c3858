use Rattle.std.proofs.Common.{◌≡◌, ◌<◌, ◌≤◌, ℕ, length}
use Rattle.std.specs.Prelude.{fold, nat_eq}
use Rattle.ha_journal.specs.Journal.{Journal, last_place}
use Rattle.ha_model.specs.declared.record.EndCause.{EndCause}
use Rattle.run_modes.specs.Calls.{stop_turned}
use Rattle.named_runs.specs.Named.{first_in}
use Rattle.engine_parts.specs.Kept.{Going, nobody}
use Rattle.engine_parts.specs.Records.{HasRoom, IsTable}
use Rattle.ha_engine.specs.Named.{named_as}
use Rattle.ha_engine.proofs.EachLemmas.{rest_of}
use Rattle.ha_engine.proofs.stop.stop_named.Given as goal

abbrev pub invariant-each : goal.invariant-each
invariant-each l = record {
  list : fold (stop_turned l.place EndCause.SwitchedOff) l.runs.list (rest_of (λ b. nat_eq (first_in l.initial.runs.firsts b) (first_in l.initial.runs.firsts l.automation)) (length l.initial.runs.firsts) l.unit)
      ≡ fold (stop_turned l.place EndCause.SwitchedOff) l.initial.runs.list (named_as l.initial.runs.firsts l.automation);
  kept : (k : Journal) → l.place ≡ last_place k → 0 < length k → IsTable k l.initial.runs.list → Going nobody k l.initial.runs.list l.initial.parts → IsTable k l.runs.list × Going nobody k l.runs.list l.parts;
  closed : l.runs.closed ≡ l.initial.runs.closed;
  firsts : l.runs.firsts ≡ l.initial.runs.firsts;
  spare : l.initial.runs.spare ≤ l.runs.spare;
  room : (n : ℕ) → HasRoom n l.initial.parts → HasRoom n l.parts;
  rested : l.parts.rested ≡ l.initial.parts.rested;
}
