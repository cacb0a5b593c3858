use Rattle.std.proofs.Common.{◌≡◌}
use Rattle.std.specs.Prelude.{map, nat_eq}
use Rattle.std.specs.List.{list_any}
use Rattle.ha_config.specs.Words.{up_to}
use Rattle.segment_carry.proofs.sources.first_shut.Given as goal

abbrev pub invariant-sources : goal.invariant-sources
invariant-sources l = l.shut.items ≡ map (λ k. list_any (nat_eq k) l.before) (up_to l.source)
