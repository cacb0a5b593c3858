use Rattle.std.proofs.Common.{◌∙◌, ap, arith, ◌++◌, ◌∷◌, []}
use Rattle.script_step.specs.Cuts.{cut, total}
use Rattle.script_step.proofs.CutLemmas.{cut-open, total-snoc}
use Rattle.script_step.proofs.scopes.Scopes.open.Goals as goal

pub invariant_of-self-2 : goal.invariant_of-self-2
invariant_of-self-2 c = ap total c.in_ok-push.ensures.ok ∙ total-snoc c.self.inside.sizes 0 ∙ omega (arith, c.self.invariant)

pub returns : goal.returns
returns c = ap (λ l. cut l c.self.inside.pairs) c.in_ok-push.ensures.ok ∙ cut-open c.self.inside.sizes c.self.inside.pairs ∙ ap (λ l. l ++ ([] ∷ [])) c.self.view_is
