use Rattle.std.proofs.Common.{◌∙◌}
use Rattle.std.specs.Prelude.{slice_get}
use Rattle.run_modes.specs.Table.{live_of}
use Rattle.named_runs.proofs.runs.NamedRuns.live.Goals as goal

pub returns : goal.returns
returns c = c.live.ensures ∙ (λ i. slice_get (live_of c.args.automation (c.self.view_is i).list) c.args.at)
