use Rattle.std.proofs.Common.{◌-◌, ◌≤◌, length}
use Rattle.engine_parts.specs.Lower.{Ascends, lower}
use Rattle.engine_parts.proofs.ready.lower.Given as goal

abbrev pub invariant-halves : goal.invariant-halves
invariant-halves l = record {
  between : l.low ≤ l.high;
  within : l.high ≤ length l.pairs;
  found : Ascends 0 l.pairs → (l.low ≤ lower l.serial l.pairs) × (lower l.serial l.pairs ≤ l.high);
}

abbrev pub decreases-halves : goal.decreases-halves
decreases-halves l = l.high - l.low
