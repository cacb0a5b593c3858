use Rattle.std.proofs.Common.{◌∙◌}
use Rattle.unit_book.proofs.StepLemmas.{taken-all, taken-more}
use Rattle.unit_book.proofs.grown.copied_origins.Goals as goal

pub origins-preserved : goal.origins-preserved
origins-preserved c = taken-more c.args.origins.now c.origins.at (0, 0) _ _ _ c.origins-test.true c.origins.invariant c.origin_at.ensures c.in_ok-push.ensures.items

pub returns : goal.returns
returns c = c.origins.invariant ∙ taken-all c.args.origins.now c.origins.at c.origins-test.false
