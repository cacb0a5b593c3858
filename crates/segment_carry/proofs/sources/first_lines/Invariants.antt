use Rattle.std.proofs.Common.{◌≡◌}
use Rattle.std.specs.Prelude.{map, slice_index}
use Rattle.ha_config.specs.Words.{up_to}
use Rattle.segment_carry.proofs.sources.first_lines.Given as goal

abbrev pub invariant-sources : goal.invariant-sources
invariant-sources l = l.lines.items ≡ map (λ k. slice_index l.before k) (up_to l.source)
