use Rattle.std.proofs.Common.{◌≡◌, ◌∙◌, arith, length}
use Rattle.named_runs.proofs.runs.NamedRuns.units.Goals as goal

pub returns : goal.returns
returns c = (let here : c.len.result ≡ length c.self.inside.firsts.items = omega (arith, c.len.ensures, c.self.inside.firsts.ok.0) in here ∙ (λ i. length (c.self.view_is i).firsts))
