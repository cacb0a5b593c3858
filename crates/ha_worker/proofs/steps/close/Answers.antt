use Rattle.std.proofs.Common.{rules, sym}
use Rattle.ha_worker.proofs.CloseLemmas.{closed_more, less_room, no_closing, still_due}
use Rattle.ha_worker.proofs.steps.close.Goals as goal

pub steps-init : goal.steps-init
steps-init g c = record { free = c.requires.free; closed = no_closing c.args.bus.now c.requires.lawful }

pub returns-then-is_some-clause-closed : goal.returns-then-is_some-clause-closed
returns-then-is_some-clause-closed g c = closed_more c.args.bus.now c.steps.bus c.step.new.self c.steps.invariant.closed c.first.ensures.stands.right c.step.ensures

pub returns-then-is_some-clause-owes : goal.returns-then-is_some-clause-owes
returns-then-is_some-clause-owes g c = still_due c.steps.bus c.step.new.self (sym c.steps-test.ensures) c.step.ensures

pub steps-preserved : goal.steps-preserved
steps-preserved g c = record {
  free = search rules;
  closed = closed_more c.args.bus.now c.steps.bus c.step.new.self c.steps.invariant.closed c.first.ensures.stands.right c.step.ensures;
}

pub steps-smaller : goal.steps-smaller
steps-smaller g c = less_room 0 c.steps.bus c.step.new.self c.step.ensures (search rules)
