use Rattle.std.proofs.Common.{◌∙◌}
use Rattle.ha_sight.specs.Calls.{call_item}
use Rattle.script_step.proofs.KindLemmas.{call-done}
use Rattle.script_step.proofs.act.call.Goals as goal

pub returns-clause-step : goal.returns-clause-step
returns-clause-step g c =
    let sight = g.A.Answers.sight c.args.answers.now in
    call-done sight c.args.service.now c.args.target.now c.args.fields.now c.args.thread.now c.in_ok-item.item c.behind_call-stage.result
    (c.in_ok-item.ensures ∙ (λ i. call_item sight (c.flat.ensures i) c.args.service.now (c.as_slice.ensures i) (c.as_slice-2.ensures i)))
    c.behind_call-stage.ensures.step
