use Rattle.std.proofs.Common.{◌≡◌, ◌∙◌, ℕ, refl, sym, true, false}
use Rattle.event_bus.specs.Subjects.{Subject, knows}
use Rattle.ha_journal.specs.Entries.{is_moment}
use Rattle.timer_queue.specs.Timers.{due_of}
use Rattle.trig_set.specs.Queued.{IsLater}
use Rattle.trig_set.proofs.CalmLemmas.{never}
use Rattle.trig_set.proofs.LeftLemmas.{others-all, others-then}
use Rattle.trig_set.proofs.OnLemmas.{on-then}
use Rattle.trig_set.proofs.concerned.put_moment.Goals as goal

pub returns-then-is_moment-clause-times : goal.returns-then-is_moment-clause-times
returns-then-is_moment-clause-times c =
    on-then _ _ c.put_timely.result
    (others-then c.args.owners.now c.put_timely.new.places (λ (m : ℕ). knows c.args.index.now Subject.Moments m ≡ false)
    (λ (m : ℕ). is_moment c.args.entry.now ≡ true → knows c.args.index.now Subject.Moments m ≡ false) (λ m h moment. h))
    c.put_timely.ensures.times

pub returns-then-is_moment-clause-later : goal.returns-then-is_moment-clause-later
returns-then-is_moment-clause-later c =
    on-then _ _ c.put_timely.result
    (others-then c.args.owners.now c.put_timely.new.places (λ (m : ℕ). IsLater c.args.to (due_of m c.args.queue.now))
    (λ (m : ℕ). is_moment c.args.entry.now ≡ true → IsLater c.args.to (due_of m c.args.queue.now)) (λ m h moment. h))
    c.put_timely.ensures.later

pub returns-else-is_moment-clause-times : goal.returns-else-is_moment-clause-times
returns-else-is_moment-clause-times c =
    others-all c.args.owners.now c.args.places.now (λ (m : ℕ). is_moment c.args.entry.now ≡ true → knows c.args.index.now Subject.Moments m ≡ false)
    (λ m moment. absurd (never (is_moment c.args.entry.now) moment (sym c.is_moment.ensures ∙ c.if-is_moment.false)))

pub returns-else-is_moment-clause-later : goal.returns-else-is_moment-clause-later
returns-else-is_moment-clause-later c =
    others-all c.args.owners.now c.args.places.now (λ (m : ℕ). is_moment c.args.entry.now ≡ true → IsLater c.args.to (due_of m c.args.queue.now))
    (λ m moment. absurd (never (is_moment c.args.entry.now) moment (sym c.is_moment.ensures ∙ c.if-is_moment.false)))

pub returns-else-is_moment-clause-queue : goal.returns-else-is_moment-clause-queue
returns-else-is_moment-clause-queue c = others-all c.args.owners.now c.args.places.now (λ (m : ℕ). due_of m c.args.queue.now ≡ due_of m c.args.queue.now) (λ m. refl)
