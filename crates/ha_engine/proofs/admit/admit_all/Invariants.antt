use Rattle.std.proofs.Common.{◌≡◌, ℕ, ◌<◌, ◌≤◌, List, length}
use Rattle.std.specs.Prelude.{vec_len}
use Rattle.ha_journal.specs.Attempts.{Attempt}
use Rattle.ha_journal.specs.Journal.{Journal, last_place}
use Rattle.run_modes.specs.Calls.{all_tried}
use Rattle.ha_engine.specs.Named.{AreFirsts, AreKnown}
use Rattle.ha_engine.specs.Admits.{ArePrepared, from_end}
use Rattle.engine_parts.specs.Kept.{Going, nobody}
use Rattle.engine_parts.specs.Records.{HasRoom, IsTable}
use Rattle.ha_engine.proofs.admit.admit_all.Given as goal

abbrev pub invariant-attempts : goal.invariant-attempts
invariant-attempts l = record {
  spare : vec_len l.stack ≤ l.runs.spare;
  room : HasRoom (vec_len l.stack) l.parts;
  known : AreKnown (length l.runs.firsts) l.stack.items;
  closed : l.runs.closed ≡ l.initial.runs.closed;
  firsts : l.runs.firsts ≡ l.initial.runs.firsts;
  rested : l.parts.rested ≡ l.initial.parts.rested;
  kept : (k : Journal) (xs : List (ℕ × Attempt)) → ArePrepared k xs (from_end l.initial.stack.items) → AreFirsts k l.initial.runs.firsts → l.place ≡ last_place k → 0 < length k → IsTable k l.initial.runs.list → Going nobody k l.initial.runs.list l.initial.parts
      → (ys : List (ℕ × Attempt)) × ArePrepared k ys (from_end l.stack.items) × (all_tried k l.runs.list ys ≡ all_tried k l.initial.runs.list xs) × IsTable k l.runs.list × Going nobody k l.runs.list l.parts;
}

abbrev pub decreases-attempts : goal.decreases-attempts
decreases-attempts l = vec_len l.stack
