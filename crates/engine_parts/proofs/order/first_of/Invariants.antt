use Rattle.std.proofs.Common.{◌-◌, ◌≤◌, length}
use Rattle.engine_parts.specs.Sorted.{AreSorted, first_of}
use Rattle.engine_parts.proofs.order.first_of.Given as goal

abbrev pub invariant-halves : goal.invariant-halves
invariant-halves l = record {
  between : l.low ≤ l.high;
  within : l.high ≤ length l.fired;
  found : AreSorted 0 l.fired → (l.low ≤ first_of l.owner l.fired) × (first_of l.owner l.fired ≤ l.high);
}

abbrev pub decreases-halves : goal.decreases-halves
decreases-halves l = l.high - l.low
