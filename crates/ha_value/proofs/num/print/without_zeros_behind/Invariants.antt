use Rattle.std.proofs.Common.{◌≡◌, ℕ, ◌<◌, ◌≤◌, true, get_or, length}
use Rattle.ha_value.specs.Numbers.{is_digit_zero}
use Rattle.ha_value.proofs.num.print.without_zeros_behind.Given as goal

abbrev pub invariant-loop-end : goal.invariant-loop-end
invariant-loop-end l = record {
  within : l.end ≤ length l.digits;
  zeros : (k : ℕ) → l.end ≤ k → k < length l.digits → is_digit_zero (get_or l.digits k 0) ≡ true;
}

abbrev pub decreases-loop-end : goal.decreases-loop-end
decreases-loop-end l = l.end
