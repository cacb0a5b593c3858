use Rattle.std.proofs.Common.{◌+◌, [], ◌∷◌, ◌++◌, true, ap, ◌∙◌, arith}
use Rattle.ha_engine.proofs.BeginLemmas.{true-next}
use Rattle.ha_engine.proofs.boot.all_rested.Goals as goal

pub sources-preserved : goal.sources-preserved
sources-preserved c = c.in_ok-push.ensures.items ∙ ap (λ l. l ++ (true ∷ [])) c.sources.invariant ∙ true-next c.sources._at (c.sources._at + 1) (omega arith)
