use Rattle.std.proofs.Common.{◌≡◌, ℕ, true, false}
use Rattle.std.specs.Prelude.{MatchOption, option_map, slice_get}
use Rattle.event_bus.specs.Lists.{has}
use Rattle.event_bus.specs.Subjects.{Subject, knows}
use Rattle.ha_journal.specs.Entries.{event_in, is_moment}
use Rattle.timer_queue.specs.Timers.{due_of}
use Rattle.trig_set.specs.Concerned.{IsAside}
use Rattle.trig_set.specs.Queued.{IsLater}
use Rattle.trig_set.proofs.LeftLemmas.{others-more, others-two}
use Rattle.trig_set.proofs.concerned.some_places.Goals as goal

pub returns-clause-aside : goal.returns-clause-aside
returns-clause-aside c =
    let owners = c.args.owners.now in
    let index = c.args.index.now in
    let queue = c.args.queue.now in
    let x = c.args.entry.now in
    let fifth = c.put_moment.new.places in
    let fourth = c.put_entities.new.places in
    let third = c.put_timers.new.places in
    let second = c.put_event.new.places in
    let timers-kept = c.in_ok-put_timers.ensures.kept in
    let entities-kept = c.in_ok-put_entities.ensures.kept in
    let entries = λ (m : ℕ). knows index Subject.Entries m ≡ false in
    let events = λ (m : ℕ). MatchOption (option_map (λ v. v.0) (event_in x)) (Unit {0}) (λ q. knows index (Subject.Event q) m ≡ false) in
    let timed = λ (m : ℕ). (k : ℕ) → MatchOption (slice_get c.args.events.now k) (Unit {0}) (λ v. knows index (Subject.Event v.kind) m ≡ false) in
    let entities = λ (m : ℕ). (k : ℕ) → MatchOption (slice_get c.args.shifts.now k) (Unit {0}) (λ s. knows index (Subject.Entity s.entity) m ≡ false) in
    let times = λ (m : ℕ). is_moment x ≡ true → knows index Subject.Moments m ≡ false in
    let later = λ (m : ℕ). is_moment x ≡ true → IsLater c.args.to (due_of m queue) in
    others-two owners fifth (λ m. ((entries m × events m) × timed m) × entities m) (λ m. times m × later m) (IsAside index queue c.args.to c.args.shifts.now c.args.events.now x)
    (λ m a b. record { within = c.requires; entries = a.0.0.0; events = a.0.0.1; timed = a.0.1; entities = a.1; times = b.0; later = b.1 })
    (others-more owners fourth fifth (λ m. ((entries m × events m) × timed m) × entities m) c.in_ok-put_moment.ensures.kept
    (others-two owners fourth (λ m. (entries m × events m) × timed m) entities (λ m. ((entries m × events m) × timed m) × entities m) (λ m a e. (a, e))
    (others-more owners third fourth (λ m. (entries m × events m) × timed m) entities-kept
    (others-two owners third (λ m. entries m × events m) timed (λ m. (entries m × events m) × timed m) (λ m a t. (a, t))
    (others-more owners second third (λ m. entries m × events m) timers-kept
    (others-two owners second entries events (λ m. entries m × events m) (λ m e k. (e, k))
    (others-more owners c.put_entries.new.places second entries c.in_ok-put_event.ensures.kept c.in_ok-put_entries.ensures.entries)
    c.in_ok-put_event.ensures.aside))
    c.in_ok-put_timers.ensures.aside))
    c.in_ok-put_entities.ensures.aside))
    (others-two owners fifth times later (λ m. times m × later m) (λ m t l. (t, l)) c.in_ok-put_moment.ensures.times c.in_ok-put_moment.ensures.later)

pub returns-clause-recent : goal.returns-clause-recent
returns-clause-recent c =
    let owners = c.args.owners.now in
    let given = λ (m : ℕ). has c.args.recent.now.owners m ≡ false in
    let fourth = c.put_entities.new.places in
    let third = c.put_timers.new.places in
    let second = c.put_event.new.places in
    let timers-kept = c.in_ok-put_timers.ensures.kept in
    let entities-kept = c.in_ok-put_entities.ensures.kept in
    others-more owners fourth c.put_moment.new.places given c.in_ok-put_moment.ensures.kept
    (others-more owners third fourth given entities-kept
    (others-more owners second third given timers-kept
    (others-more owners c.put_entries.new.places second given c.in_ok-put_event.ensures.kept c.in_ok-put_entries.ensures.recent)))
