use Rattle.std.proofs.Common.{◌≡◌, false}
use Rattle.event_bus.specs.Lists.{has}
use Rattle.timer_queue.specs.Timers.{due_of}
use Rattle.trig_set.specs.Concerned.{IsAside}
use Rattle.trig_set.proofs.LeftLemmas.{others-none}
use Rattle.trig_set.proofs.OnLemmas.{ok-then}
use Rattle.trig_set.proofs.concerned.concerned.Goals as goal

pub returns-then-opens-clause-aside : goal.returns-then-opens-clause-aside
returns-then-opens-clause-aside c =
    ok-then _ _ c.all_places.result (λ places beyond. others-none c.args.owners.now places (IsAside c.args.index.now c.args.queue.now c.args.to c.args.shifts.now c.args.events.now c.args.entry.now) beyond) c.all_places.ensures

pub returns-then-opens-clause-queue : goal.returns-then-opens-clause-queue
returns-then-opens-clause-queue c =
    ok-then _ _ c.all_places.result (λ places beyond. others-none c.args.owners.now places (λ m. due_of m c.args.queue.now ≡ due_of m c.args.queue.now) beyond) c.all_places.ensures

pub returns-then-opens-clause-recent : goal.returns-then-opens-clause-recent
returns-then-opens-clause-recent c =
    ok-then _ _ c.all_places.result (λ places beyond. others-none c.args.owners.now places (λ m. has c.args.recent.now.owners m ≡ false) beyond) c.all_places.ensures
