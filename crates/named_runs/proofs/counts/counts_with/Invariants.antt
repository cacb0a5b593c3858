use Rattle.std.proofs.Common.{◌≡◌, map}
use Rattle.std.specs.Prelude.{slice_index_or}
use Rattle.ha_config.specs.Words.{up_to}
use Rattle.named_runs.proofs.counts.counts_with.Given as goal

abbrev pub invariant-counts : goal.invariant-counts
invariant-counts l = l.made.items ≡ map (λ n. slice_index_or l.known n 0) (up_to l.at)
