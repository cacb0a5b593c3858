use Rattle.std.proofs.Common.{◌≡◌, ◌<◌, ℕ, false, get_or}
use Rattle.wait_set.specs.declared.asked.Asked.{Asked}
use Rattle.wait_set.specs.Concern.{has}
use Rattle.wait_set.proofs.tested.put_from.Given as goal

abbrev pub invariant-loop-at : goal.invariant-loop-at
invariant-loop-at l = (n : ℕ) (d : Asked) → n < l.at → has l.tested (get_or l.asks n d).owner ≡ false → n < l.place
