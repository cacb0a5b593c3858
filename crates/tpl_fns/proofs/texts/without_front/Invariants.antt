use Rattle.std.proofs.Common.{◌≡◌, ℕ, ◌-◌, ◌<◌, ◌≤◌, true, length, get_or}
use Rattle.std.specs.Str.{IsCharBoundary}
use Rattle.ha_value.specs.Truth.{is_blank_or_break}
use Rattle.tpl_fns.proofs.texts.without_front.Given as goal

abbrev pub invariant-loop-start : goal.invariant-loop-start
invariant-loop-start l = record {
  within : l.start ≤ length l.bytes;
  passed : (k : ℕ) → k < l.start → is_blank_or_break (get_or l.bytes k 0) ≡ true;
  boundary : IsCharBoundary l.text l.start;
}

abbrev pub decreases-loop-start : goal.decreases-loop-start
decreases-loop-start l = length l.bytes - l.start
