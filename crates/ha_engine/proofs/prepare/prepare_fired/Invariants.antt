use Rattle.std.proofs.Common.{◌≡◌, suc, List, ◌++◌, length}
use Rattle.ha_journal.specs.declared.firing.Firing.{Firing}
use Rattle.ha_journal.specs.Journal.{Journal, last_place}
use Rattle.ha_journal.specs.Moves.{sight}
use Rattle.ha_engine.specs.Knows.{IsKnown}
use Rattle.ha_engine.specs.Admits.{ArePassing}
use Rattle.engine_parts.specs.Owners.{attempts_by}
use Rattle.ha_engine.proofs.prepare.prepare_fired.Given as goal

abbrev pub invariant-firings : goal.invariant-firings
invariant-firings g l = record {
  rest : List Firing;
  split : l.initial.fired ≡ l.fired ++ rest;
  order : l.order ≡ length (attempts_by l.fired);
  done : (k : Journal) → g.A.Answers.sight l.answers ≡ sight k (suc (last_place k)) → IsKnown k l.known → ArePassing k l.order (attempts_by rest) l.stack.items;
}

abbrev pub decreases-firings : goal.decreases-firings
decreases-firings g l = length l.fired
