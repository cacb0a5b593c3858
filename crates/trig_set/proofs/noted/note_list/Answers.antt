use Rattle.trig_set.proofs.ConcernLemmas.{calm-fires, calm-stands}
use Rattle.trig_set.proofs.OnLemmas.{on-then}
use Rattle.trig_set.proofs.QueueLemmas.{due-same}
use Rattle.trig_set.proofs.noted.note_list.Goals as goal

pub returns-clause-stands : goal.returns-clause-stands
returns-clause-stands g c =
    on-then _ _ c.note_some.result
    (λ f j shows sees all known noted queued.
    f j shows sees all (λ n none. calm-stands c.args.scene.now c.args.index.now c.args.queue.now j c.args.owners.now known shows all queued n c.args.recent.now noted (c.in_ok-places.ensures.aside n none) (c.in_ok-places.ensures.recent n none)))
    c.note_some.ensures.stands

pub returns-clause-fired : goal.returns-clause-fired
returns-clause-fired g c =
    on-then _ _ c.note_some.result
    (λ f j shows sees all known noted queued.
    f j shows sees all (λ n none. calm-fires c.args.scene.now c.args.index.now c.args.queue.now j c.args.owners.now known shows all queued n c.args.recent.now noted (c.in_ok-places.ensures.aside n none) (c.in_ok-places.ensures.recent n none)))
    c.note_some.ensures.fired

pub returns-clause-queued : goal.returns-clause-queued
returns-clause-queued g c =
    on-then _ _ c.note_some.result
    (λ f asc queued. f asc (λ n none. due-same c.args.owners.now n c.args.queue.now _ asc (queued n) (c.in_ok-places.ensures.queue n none)))
    c.note_some.ensures.queued
