use Rattle.std.proofs.Common.{◌≡◌, List, ◌++◌, take, drop, length}
use Rattle.ha_sight.specs.Scripts.{Branch}
use Rattle.ha_ready.specs.ReadyPairs.{pairs_of}
use Rattle.engine_parts.proofs.ready.put_pairs.Given as goal

abbrev pub invariant-branches : goal.invariant-branches
invariant-branches l = record {
  done : List Branch;
  split : l.initial.branches ≡ l.branches ++ done;
  items : l.ready.pairs.items ≡ take l.at l.initial.ready.pairs.items ++ (pairs_of l.serial done ++ drop l.at l.initial.ready.pairs.items);
}

abbrev pub decreases-branches : goal.decreases-branches
decreases-branches l = length l.branches
