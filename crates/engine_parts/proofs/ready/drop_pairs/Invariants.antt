use Rattle.std.proofs.Common.{◌≡◌, ◌-◌, ◌≤◌, length}
use Rattle.std.specs.Prelude.{vec_len, vec_capacity}
use Rattle.engine_parts.specs.Lower.{Ascends}
use Rattle.engine_parts.proofs.LowerLemmas.{CutTo}
use Rattle.engine_parts.proofs.ready.drop_pairs.Given as goal

abbrev pub invariant-pairs : goal.invariant-pairs
invariant-pairs l = record {
  cut : Ascends 0 l.initial.ready.pairs.items → CutTo l.serial l.at l.initial.ready.pairs.items l.ready.pairs.items;
  len : vec_len l.ready.pairs ≤ vec_len l.initial.ready.pairs;
  capacity : vec_capacity l.ready.pairs ≡ vec_capacity l.initial.ready.pairs;
}

abbrev pub decreases-pairs : goal.decreases-pairs
decreases-pairs l = length l.ready.pairs.items
