use Rattle.std.proofs.Common.{◌≤◌, ◌-◌, length}
use Rattle.std.specs.Prelude.{drop}
use Rattle.engine_parts.specs.Lower.{Ascends}
use Rattle.engine_parts.proofs.PlacedLemmas.{NoneBefore, Passed}
use Rattle.engine_parts.proofs.ready.place_of.Given as goal

abbrev pub invariant-pairs : goal.invariant-pairs
invariant-pairs l = record {
  fits : l.at ≤ length l.ready.pairs.items;
  passed : Ascends 0 l.ready.pairs.items → Passed l.serial l.branch l.at l.ready.pairs.items;
  later : Ascends 0 l.ready.pairs.items → NoneBefore l.serial (drop l.at l.ready.pairs.items);
}

abbrev pub decreases-pairs : goal.decreases-pairs
decreases-pairs l = length l.ready.pairs.items - l.at
