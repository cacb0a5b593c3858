use Rattle.std.proofs.Common.{◌∙◌, subst}
use Rattle.std.specs.Prelude.{Option}
use Rattle.ha_sight.specs.declared.waiting.WaitEnd.{WaitEnd}
use Rattle.script_step.specs.declared.strand.Strand.{Strand}
use Rattle.script_step.specs.Continuation.{may_step}
use Rattle.script_step.specs.Gates.{fronts}
use Rattle.script_step.specs.Step.{IsStep}
use Rattle.script_step.specs.Told.{Tells}
use Rattle.script_step.proofs.step.step_moved.Goals as goal

pub step-requires-clause-may : goal.step-requires-clause-may
step-requires-clause-may g c =
    (λ i. may_step (c.replace-whole.ensures.value i) c.args.list.now c.args.path.now (g.A.Answers.sight c.args.answers.now).now (c.opened.ensures i)) ∙ c.requires.may

pub returns-clause-told : goal.returns-clause-told
returns-clause-told g c = λ began n b gate e.
    subst (λ (x : Strand). Tells c.args.path.now (fronts x c.args.list.now began) b gate) c.replace-whole.ensures.value (c.in_ok-made.ensures.told began n b gate e)

pub returns-clause-step : goal.returns-clause-step
returns-clause-step g c =
    let sight = g.A.Answers.sight c.args.answers.now in
    let by_end = subst (λ (o : Option WaitEnd). IsStep sight c.args.list.now c.args.path.now o c.replace-whole.result c.in_ok-made.item c.in_ok-made.made) c.opened.ensures c.in_ok-made.ensures.step in
    subst (λ (x : Strand). IsStep sight c.args.list.now c.args.path.now c.args.end x c.in_ok-made.item c.in_ok-made.made) c.replace-whole.ensures.value by_end
