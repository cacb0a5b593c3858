use Rattle.std.proofs.Common.{◌∙◌, ap, sym}
use Rattle.std.specs.Prelude.{unwrap_or}
use Rattle.named_runs.proofs.counts.slot_or.Goals as goal

pub returns-in-Some : goal.returns-in-Some
returns-in-Some c = ap (λ o. unwrap_or o c.args.automation) (sym c.in-Some.is ∙ c.slot_at.ensures)

pub returns-in-None : goal.returns-in-None
returns-in-None c = ap (λ o. unwrap_or o c.args.automation) (sym c.in-None.is ∙ c.slot_at.ensures)
