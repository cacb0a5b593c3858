use Rattle.std.proofs.Common.{◌∙◌, sym, [], ◌∷◌}
use Rattle.script_step.specs.Frames.{begins}
use Rattle.script_step.specs.Continuation.{continuation}
use Rattle.script_step.specs.Gates.{fronts}
use Rattle.script_step.proofs.ParallelLemmas.{begun-in, prefixed-none}
use Rattle.script_step.proofs.GateLemmas.{fresh-fronts}
use Rattle.script_step.proofs.frames.Frames.start.Goals as goal

pub returns-clause-stands : goal.returns-clause-stands
returns-clause-stands c = record {
  script = c.of.ensures;
  goes = λ ps.
      sym (prefixed-none (continuation c.in_ok-root.root c.of.result.value [] begins ps)
      ∙ (λ i. continuation (c.in_ok-root.ensures i) (c.of.ensures i) [] begins ps)
      ∙ begun-in (c.args.env.now ∷ []) c.args.actions.now [] begins ps);
}

pub returns-clause-fronts : goal.returns-clause-fronts
returns-clause-fronts c began =
    (λ i. fronts (c.in_ok-root.ensures i) (c.of.ensures i) began) ∙ fresh-fronts (c.args.env.now ∷ []) c.args.actions.now began

pub returns-clause-means : goal.returns-clause-means
returns-clause-means c = λ began ps.
    (λ i. continuation (c.in_ok-root.ensures i) (c.of.ensures i) [] began ps) ∙ begun-in (c.args.env.now ∷ []) c.args.actions.now [] began ps
