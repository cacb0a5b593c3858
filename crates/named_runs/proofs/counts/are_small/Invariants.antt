use Rattle.std.proofs.Common.{◌<◌, ◌^◌, ℕ}
use Rattle.segment_runs.specs.Segment.{number_at}
use Rattle.named_runs.proofs.counts.are_small.Given as goal

abbrev pub invariant-numbers : goal.invariant-numbers
invariant-numbers l = (a : ℕ) → a < l.at → number_at l.numbers a < 2 ^ 62
