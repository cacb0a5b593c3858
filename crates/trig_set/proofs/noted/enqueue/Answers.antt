use Rattle.std.proofs.Common.{◌≡◌, ℕ, false, get_or, nat_eq, sym, subst}
use Rattle.std.specs.Prelude.{MatchOption}
use Rattle.timer_queue.specs.Timers.{due_of}
use Rattle.trig_set.specs.declared.owners.Attached.{Attached}
use Rattle.trig_set.specs.Queued.{HasDue}
use Rattle.trig_set.proofs.OnLemmas.{on-then}
use Rattle.trig_set.proofs.OwnersLemmas.{at-beyond}
use Rattle.trig_set.proofs.QueueLemmas.{kept-elsewhere}
use Rattle.trig_set.proofs.SpotLemmas.{get-at}
use Rattle.trig_set.proofs.noted.enqueue.Goals as goal

pub returns-then-place-owners-clause-here : goal.returns-then-place-owners-clause-here
returns-then-place-owners-clause-here c =
    on-then _ _ c.enqueue_one.result
    (λ h. subst (λ o. MatchOption o (Unit {0}) (HasDue c.enqueue_one.new.queue)) (sym (get-at c.args.owners.now c.args.place c.index-owners-place.result c.if-place-owners.true))
    (subst (HasDue c.enqueue_one.new.queue) c.index-owners-place.is h))
    c.enqueue_one.ensures.here

pub returns-then-place-owners-clause-elsewhere : goal.returns-then-place-owners-clause-elsewhere
returns-then-place-owners-clause-elsewhere c =
    on-then _ _ c.enqueue_one.result
    (λ others asc n apart has.
    kept-elsewhere c.args.owners.now c.args.place n (get_or c.args.owners.now c.args.place c.index-owners-place.result) c.args.queue.now c.enqueue_one.new.queue
    (get-at c.args.owners.now c.args.place c.index-owners-place.result c.if-place-owners.true)
    (subst (λ (a : Attached). (m : ℕ) → nat_eq a.owner m ≡ false → due_of m c.enqueue_one.new.queue ≡ due_of m c.args.queue.now) c.index-owners-place.is others) asc apart has)
    c.enqueue_one.ensures.others

pub returns-else-place-owners-clause-here : goal.returns-else-place-owners-clause-here
returns-else-place-owners-clause-here c = at-beyond (HasDue c.args.queue.now) c.args.owners.now c.args.place c.if-place-owners.false
