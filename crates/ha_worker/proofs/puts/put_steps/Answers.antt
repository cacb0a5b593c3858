use Rattle.std.proofs.Common.{◌∙◌, rules, sym}
use Rattle.ha_worker.proofs.CameLemmas.{step_more}
use Rattle.ha_worker.proofs.CloseLemmas.{less_room}
use Rattle.ha_worker.proofs.TurnLemmas.{step_due, step_leaves, unrested_busy}
use Rattle.ha_worker.proofs.puts.put_steps.Goals as goal

pub step-requires-clause-busy : goal.step-requires-clause-busy
step-requires-clause-busy g c κs within = unrested_busy c.args.id c.steps.bus.records c.steps.bus.journal c.first.ensures.stands.right (sym c.steps-test.ensures)

pub returns-then-is_some-clause-came : goal.returns-then-is_some-clause-came
returns-then-is_some-clause-came g c = step_more c.args.id c.args.bus.now c.steps.bus c.step.new.self c.steps.invariant.came c.first-in-steps.ensures.stands.right (sym c.steps-test.ensures) c.step.ensures

pub returns-then-is_some-clause-shut : goal.returns-then-is_some-clause-shut
returns-then-is_some-clause-shut g c = λ k. step_leaves k c.args.id c.steps.bus c.step.new.self c.step.ensures ∙ c.steps.invariant.shut k

pub returns-then-is_some-clause-full : goal.returns-then-is_some-clause-full
returns-then-is_some-clause-full g c = step_due c.args.id c.steps.bus c.step.new.self c.first.ensures.stands.right c.first-in-steps.ensures.stands.right (sym c.steps-test.ensures) c.step.ensures

pub steps-preserved : goal.steps-preserved
steps-preserved g c = record {
  free = search rules;
  came = step_more c.args.id c.args.bus.now c.steps.bus c.step.new.self c.steps.invariant.came c.first-in-steps.ensures.stands.right (sym c.steps-test.ensures) c.step.ensures;
  shut = λ k. step_leaves k c.args.id c.steps.bus c.step.new.self c.step.ensures ∙ c.steps.invariant.shut k;
}

pub steps-smaller : goal.steps-smaller
steps-smaller g c = less_room c.args.id c.steps.bus c.step.new.self c.step.ensures (search rules)
