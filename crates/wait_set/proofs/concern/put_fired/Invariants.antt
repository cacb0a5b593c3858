use Rattle.std.proofs.Common.{◌≡◌, ℕ, false, drop}
use Rattle.wait_set.specs.Concern.{OfOthers, fires_for, has}
use Rattle.wait_set.proofs.concern.put_fired.Given as goal

abbrev pub invariant-fired : goal.invariant-fired
invariant-fired l = record {
  kept : (n : ℕ) → has l.places n ≡ false → has l.initial.places n ≡ false;
  aside : OfOthers (λ a. fires_for l.fired a.owner ≡ fires_for (drop l.firing-index l.fired) a.owner) l.places l.asks;
}
