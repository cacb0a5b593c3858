use Rattle.std.proofs.Common.{◌∙◌, sym}
use Rattle.script_step.specs.declared.strand.End.{End}
use Rattle.script_step.specs.Continuation.{last_action, thread_next}
use Rattle.script_step.proofs.StageLemmas.{stage-ready, stage-ended}
use Rattle.script_step.proofs.WholeLemmas.{settled-ready, settled-ended}
use Rattle.script_step.proofs.StepTold.{ended-none, ready-free}
use Rattle.script_step.proofs.sides.goes_on.Goals as goal

pub returns-then-settle-clause-means : goal.returns-then-settle-clause-means
returns-then-settle-clause-means c = λ b began ps.
    let list = c.args.list.now in
    let t = c.args.thread.now in
    let new = c.settle.new.self in
    stage-ready (last_action list t) (thread_next b list t.outer t.here) t.scopes b began ps
    ∙ c.settle.ensures.alike c.if-settle.true b ps
    ∙ sym (stage-ready (last_action list new) (thread_next b list new.outer new.here) new.scopes b began ps)

pub returns-else-settle-clause-means : goal.returns-else-settle-clause-means
returns-else-settle-clause-means c = λ b began ps.
    let list = c.args.list.now in
    let t = c.args.thread.now in
    let new = c.settle.new.self in
    stage-ready (last_action list t) (thread_next b list t.outer t.here) t.scopes b began ps
    ∙ c.settle.ensures.over c.if-settle.false b ps
    ∙ sym (stage-ended (last_action list new) (thread_next b list new.outer new.here) new.scopes b began ps End.Done)

pub returns-then-settle-clause-settled : goal.returns-then-settle-clause-settled
returns-then-settle-clause-settled c = settled-ready c.args.list.now c.settle.new.self (c.settle.ensures.next c.if-settle.true)

pub returns-else-settle-clause-settled : goal.returns-else-settle-clause-settled
returns-else-settle-clause-settled c = settled-ended c.args.list.now c.settle.new.self End.Done

pub returns-then-settle-clause-free : goal.returns-then-settle-clause-free
returns-then-settle-clause-free c = λ began b g e. ready-free c.args.list.now c.settle.new.self began b g e

pub returns-else-settle-clause-free : goal.returns-else-settle-clause-free
returns-else-settle-clause-free c = λ began b g e. absurd (ended-none End.Done c.args.list.now c.settle.new.self began b g e)
