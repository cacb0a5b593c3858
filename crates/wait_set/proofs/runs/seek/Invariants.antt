use Rattle.std.proofs.Common.{◌≡◌, ◌≤◌, ◌<◌, ℕ, length, true, get_or, nat_eq}
use Rattle.wait_set.specs.declared.asked.Asked.{Asked}
use Rattle.wait_set.proofs.runs.seek.Given as goal

abbrev pub invariant-pairs : goal.invariant-pairs
invariant-pairs l = (n : ℕ) (d : Asked) → l.from ≤ n → n < length l.asks → nat_eq (get_or l.asks n d).ask.serial l.serial ≡ true → l.low ≤ (get_or l.asks n d).owner
