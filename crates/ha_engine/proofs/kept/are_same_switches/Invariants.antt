use Rattle.std.proofs.Common.{◌≡◌, ◌≤◌, drop, length}
use Rattle.std.specs.Prelude.{option_and_then, slice_get}
use Rattle.ha_config.specs.Names.{names_of}
use Rattle.ha_config.specs.Equal.{same_flag}
use Rattle.ha_sight.specs.Sight.{switch_at}
use Rattle.ha_whole.specs.Whole.{same_pairs_by}
use Rattle.segment_carry.specs.ByName.{listed}
use Rattle.ha_engine.proofs.kept.are_same_switches.Given as goal

abbrev pub invariant-places : goal.invariant-places
invariant-places l = record {
  same : same_pairs_by same_flag (drop l.passed l.kept) (listed (names_of l.rules) (λ a. option_and_then (switch_at l.switches) (slice_get l.numbers a)) (drop l.place-index l.order))
      ≡ same_pairs_by same_flag l.kept (listed (names_of l.rules) (λ a. option_and_then (switch_at l.switches) (slice_get l.numbers a)) l.order);
  small : l.passed ≤ l.place-index;
  within : l.passed ≤ length l.kept;
}
