use Rattle.std.proofs.Common.{◌≡◌}
use Rattle.std.specs.Prelude.{filter}
use Rattle.ha_config.specs.Words.{up_to}
use Rattle.segment_carry.specs.Sources.{is_true_at}
use Rattle.segment_carry.proofs.sources.shut_list.Given as goal

abbrev pub invariant-sources : goal.invariant-sources
invariant-sources l = l.sources ≡ filter (is_true_at l.shut) (up_to l.source)
