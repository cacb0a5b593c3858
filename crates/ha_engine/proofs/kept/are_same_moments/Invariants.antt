use Rattle.std.proofs.Common.{◌≡◌, ◌≤◌, drop, length}
use Rattle.std.specs.Prelude.{None, option_and_then, slice_get, unwrap_or, nat_eq}
use Rattle.ha_config.specs.Names.{names_of}
use Rattle.named_runs.specs.Named.{first_in}
use Rattle.ha_whole.specs.Whole.{same_pairs_by}
use Rattle.segment_carry.specs.ByName.{listed}
use Rattle.ha_engine.proofs.kept.are_same_moments.Given as goal

abbrev pub invariant-places : goal.invariant-places
invariant-places l = record {
  same : same_pairs_by nat_eq (drop l.passed l.kept) (listed (names_of l.rules) (λ a. option_and_then (λ n. unwrap_or (slice_get l.lasts (first_in l.firsts n)) None) (slice_get l.numbers a)) (drop l.place-index l.order))
      ≡ same_pairs_by nat_eq l.kept (listed (names_of l.rules) (λ a. option_and_then (λ n. unwrap_or (slice_get l.lasts (first_in l.firsts n)) None) (slice_get l.numbers a)) l.order);
  small : l.passed ≤ l.place-index;
  within : l.passed ≤ length l.kept;
}
