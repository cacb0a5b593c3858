use Rattle.std.proofs.Common.{◌≡◌, ℕ, false, length}
use Rattle.event_bus.specs.Lists.{has}
use Rattle.timer_queue.specs.Timers.{due_of}
use Rattle.trig_set.specs.Concerned.{OfOthers}
use Rattle.trig_set.proofs.concerned.put_due.Given as goal

abbrev pub decreases-dues : goal.decreases-dues
decreases-dues l = length l.queue

abbrev pub invariant-dues : goal.invariant-dues
invariant-dues l = record {
  kept : (n : ℕ) → has l.places n ≡ false → has l.initial.places n ≡ false;
  same : OfOthers l.owners l.places (λ m. due_of m l.queue ≡ due_of m l.initial.queue);
}
