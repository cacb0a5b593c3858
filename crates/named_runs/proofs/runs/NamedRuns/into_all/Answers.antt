use Rattle.std.proofs.Common.{◌∙◌}
use Rattle.segment_runs.specs.Segment.{all_of}
use Rattle.named_runs.proofs.runs.NamedRuns.into_all.Goals as goal

pub returns : goal.returns
returns c = c.into_all.ensures ∙ (λ i. all_of (c.self.view_is i).closed (c.self.view_is i).list)
