use Rattle.std.proofs.Common.{◌∙◌, sym}
use Rattle.std.specs.Prelude.{if◌then◌else◌}
use Rattle.timer_queue.specs.Timers.{due_of}
use Rattle.trig_set.proofs.OnLemmas.{on-then}
use Rattle.trig_set.proofs.QueueLemmas.{enqueued}
use Rattle.trig_set.proofs.noted.enqueue_one.Goals as goal

pub returns-clause-here : goal.returns-clause-here
returns-clause-here c =
    on-then _ _ c.retime.result
    (λ dues. enqueued c.args.queue.now c.retime.new.timers c.args.attached.now c.earliest.result c.earliest.ensures.least (dues (sym c.due-present.ensures)))
    c.retime.ensures.dues

pub returns-clause-others : goal.returns-clause-others
returns-clause-others c =
    on-then _ _ c.retime.result
    (λ dues n apart. dues (sym c.due-present.ensures) n ∙ (λ i. if apart i then c.earliest.result else due_of n c.args.queue.now))
    c.retime.ensures.dues
