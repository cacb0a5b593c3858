use Rattle.std.proofs.Common.{◌<◌, ◌∙◌, List, ℕ, refl, subst}
use Rattle.std.specs.Prelude.{◌^◌}
use Rattle.segment_runs.specs.Segment.{number_at}
use Rattle.named_runs.proofs.CountLemmas.{none-at}
use Rattle.named_runs.proofs.runs.NamedRuns.opening.Goals as goal

pub returns : goal.returns
returns c = record {
  firsts_are = c.in_ok-firsts.ensures;
  numbers_are = refl;
  within = c.requires;
  whole = c.in_ok-counts.ensures.len;
  none = λ n lt. c.in_ok-counts.ensures.same n lt ∙ none-at n;
  small = λ a. subst (λ (ns : List ℕ). number_at ns a < 2 ^ 62) c.as_slice.ensures (c.are_small.ensures c.if-not-are_small.false a);
}
