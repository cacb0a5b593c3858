use Rattle.std.proofs.Common.{◌≡◌, ◌≤◌, ◌-◌, ℕ, length, map, true}
use Rattle.trig_set.specs.Order.{ascend, owner_of}
use Rattle.trig_set.specs.Stands.{AtOwner}
use Rattle.trig_set.proofs.HalvesLemmas.{Between}
use Rattle.trig_set.proofs.concerned.place_of.Given as goal

abbrev pub decreases-halves : goal.decreases-halves
decreases-halves l = l.high - l.low

abbrev pub invariant-halves : goal.invariant-halves
invariant-halves l = record {
  ordered : l.low ≤ l.high;
  within : l.high ≤ length l.owners;
  found : ascend (map owner_of l.owners) ≡ true → (n : ℕ) → AtOwner l.owners n (Between l.owner l.low l.high n);
}
