use Rattle.script_step.proofs.StepLemmas.{step-ready}
use Rattle.script_step.specs.Continuation.{placed}
use Rattle.script_step.specs.Gates.{fronts}
use Rattle.script_step.proofs.StepTold.{own-told}
use Rattle.script_step.proofs.step.step_ready.Goals as goal

pub returns-in-Ok-clause-told : goal.returns-in-Ok-clause-told
returns-in-Ok-clause-told g c = λ path began n b gate here e.
    let list = c.args.list.now in
    own-told path b gate (fronts c.args.strand.now list began) c.in-Ok.done.1 list c.advance.new.thread (placed path n began) here c.in-Ok.ensures.fresh
    (c.settle_behind.ensures.told (placed path n began) b gate e)

pub returns-in-Ok-clause-step : goal.returns-in-Ok-clause-step
returns-in-Ok-clause-step g c = λ path end is here.
    step-ready (g.A.Answers.sight c.args.answers.now) c.args.list.now path end c.args.strand.now c.settle_behind.new.strand c.advance.new.thread c.in-Ok.done.1
    c.settle_behind.ensures.means c.in-Ok.done.0 is here c.in-Ok.ensures.step
