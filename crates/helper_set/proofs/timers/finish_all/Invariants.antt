use Rattle.std.proofs.Common.{◌≡◌, ◌≤◌, ℕ, [], false, length, true}
use Rattle.std.specs.Prelude.{None, flat_map, option_map, slice_get, if◌then◌else◌}
use Rattle.ha_config.specs.Words.{up_to}
use Rattle.timer_queue.specs.Timers.{due_of}
use Rattle.helper_set.specs.Passes.{entity_at, has, idled}
use Rattle.helper_set.proofs.timers.finish_all.Given as goal

abbrev pub decreases-places : goal.decreases-places
decreases-places l = length l.left.keys

-- the places that are left are as they were, the others as they will be
abbrev pub invariant-places : goal.invariant-places
invariant-places l = record {
  next : ℕ;
  ahead : (n : ℕ) → has l.left n ≡ true → next ≤ n;
  behind : (n : ℕ) → next ≤ n → has l.left n ≡ has l.initial.left n;
  gone : (n : ℕ) → has l.initial.left n ≡ false → has l.left n ≡ false;
  timed : (n : ℕ) → due_of n l.timers ≡ (if has l.left n then due_of n l.initial.timers else (if has l.initial.left n then None else due_of n l.initial.timers));
  kept : (n : ℕ) → slice_get l.kept.items n ≡ (if has l.left n then slice_get l.initial.kept.items n else (if has l.initial.left n then option_map idled (slice_get l.initial.kept.items n) else slice_get l.initial.kept.items n));
  found : l.found ≡ flat_map (λ n. if has l.initial.left n then entity_at l.initial.kept.items n else []) (up_to next);
}
