use Rattle.std.proofs.Common.{◌≡◌, ◌+◌, map}
use Rattle.ha_config.specs.Words.{up_to}
use Rattle.segment_runs.specs.Segment.{number_at}
use Rattle.named_runs.specs.Named.{first_in, runs_named}
use Rattle.named_runs.proofs.counts.last_numbers.Given as goal

abbrev pub invariant-units : goal.invariant-units
invariant-units l = l.made.items ≡ map (λ a. number_at l.runs.closed.numbers a + runs_named l.firsts (first_in l.firsts a) l.runs.list) (up_to l.at)
