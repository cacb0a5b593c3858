use Rattle.std.proofs.Common.{◌∙◌}
use Rattle.script_step.specs.Turns.{first_holding}
use Rattle.script_step.proofs.IfLemmas.{if_ok}
use Rattle.script_step.proofs.KindLemmas.{choose-done}
use Rattle.script_step.proofs.act.choose.Goals as goal

pub returns-clause-step : goal.returns-clause-step
returns-clause-step g c =
    let sight = g.A.Answers.sight c.args.answers.now in
    if_ok c.go_into.result (λ r into fallback. choose-done sight c.args.options.now fallback c.args.thread.now c.go_into.new.thread c.in_ok-k.k r.0 r.1
    (c.in_ok-k.ensures ∙ (λ i. first_holding sight (c.flat.ensures i) (c.as_slice.ensures i))) into) c.go_into.ensures.step
