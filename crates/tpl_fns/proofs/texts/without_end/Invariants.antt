use Rattle.std.proofs.Common.{◌≡◌, ℕ, ◌<◌, ◌≤◌, true, length, get_or}
use Rattle.std.specs.Str.{IsCharBoundary}
use Rattle.ha_value.specs.Truth.{is_blank_or_break}
use Rattle.tpl_fns.proofs.texts.without_end.Given as goal

abbrev pub invariant-loop-end : goal.invariant-loop-end
invariant-loop-end l = record {
  within : l.end ≤ length l.bytes;
  passed : (k : ℕ) → l.end ≤ k → k < length l.bytes → is_blank_or_break (get_or l.bytes k 0) ≡ true;
  boundary : IsCharBoundary l.text l.end;
}

abbrev pub decreases-loop-end : goal.decreases-loop-end
decreases-loop-end l = l.end
