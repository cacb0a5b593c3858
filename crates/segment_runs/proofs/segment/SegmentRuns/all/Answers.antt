use Rattle.std.proofs.Common.{◌∙◌}
use Rattle.segment_runs.specs.Segment.{all_of}
use Rattle.segment_runs.proofs.segment.SegmentRuns.all.Goals as goal

pub returns : goal.returns
returns c = c.list.ensures ∙ c.self.invariant.splits.is ∙ (λ i. all_of (c.self.view_is i).closed (c.self.view_is i).list)
