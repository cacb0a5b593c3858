use Rattle.std.proofs.Common.{◌≡◌, suc, ◌≤◌, ◌++◌, true, drop, length, map}
use Rattle.ha_journal.specs.Attempts.{by_hand}
use Rattle.ha_journal.specs.Journal.{Journal, last_place}
use Rattle.ha_journal.specs.Moves.{sight}
use Rattle.ha_engine.specs.Knows.{IsKnown}
use Rattle.ha_engine.specs.Admits.{ArePassing, asked_for}
use Rattle.ha_engine.proofs.prepare.prepare_called.Given as goal

abbrev pub invariant-chosen : goal.invariant-chosen
invariant-chosen g l = record {
  fits : l.left ≤ length l.chosen;
  done : (k : Journal) → g.A.Answers.sight l.answers ≡ sight k (suc (last_place k)) → IsKnown k l.known
      → ArePassing k l.left (map (λ a. asked_for a (by_hand ++ l.fields) true) (drop l.left l.chosen)) l.stack.items;
}

abbrev pub decreases-chosen : goal.decreases-chosen
decreases-chosen g l = l.left
