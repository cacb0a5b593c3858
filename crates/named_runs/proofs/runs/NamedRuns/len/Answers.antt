use Rattle.std.proofs.Common.{◌∙◌, length}
use Rattle.named_runs.proofs.runs.NamedRuns.len.Goals as goal

pub returns : goal.returns
returns c = c.len.ensures ∙ (λ i. length (c.self.view_is i).list)
