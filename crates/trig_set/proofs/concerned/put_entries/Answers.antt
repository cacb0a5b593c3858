use Rattle.std.proofs.Common.{◌≡◌, ℕ, false}
use Rattle.event_bus.specs.Subjects.{Subject, knows}
use Rattle.trig_set.proofs.LeftLemmas.{others-more}
use Rattle.trig_set.proofs.OnLemmas.{on-then}
use Rattle.trig_set.proofs.concerned.put_entries.Goals as goal

pub returns-clause-kept : goal.returns-clause-kept
returns-clause-kept c = on-then _ _ c.put_places-2.result (λ kept n none. c.in_ok-put_places.ensures.kept n (kept n none)) c.put_places-2.ensures.kept

pub returns-clause-entries : goal.returns-clause-entries
returns-clause-entries c =
    on-then _ _ c.put_places-2.result
    (λ kept. others-more c.args.owners.now c.put_places.new.places c.put_places-2.new.places (λ (m : ℕ). knows c.args.index.now Subject.Entries m ≡ false) kept c.in_ok-put_places.ensures.aside)
    c.put_places-2.ensures.kept
