use Rattle.std.proofs.Common.{◌∙◌}
use Rattle.segment_runs.specs.Segment.{number_at}
use Rattle.segment_runs.proofs.segment.SegmentRuns.carried.Goals as goal

pub returns : goal.returns
returns c =
    c.carried_at.ensures ∙ (λ i. number_at (c.as_slice.ensures i) c.args.unit) ∙ (λ i. number_at (c.self.view_is i).closed.numbers c.args.unit)
