use Rattle.std.proofs.Common.{◌≡◌, ◌∙◌, sym, arith, inl, inr, length, false}
use Rattle.std.proofs.lemmas.Bool.Decides.{leb_tells}
use Rattle.event_bus.specs.Subjects.{Subject, knows}
use Rattle.trig_set.proofs.LeftLemmas.{others-more, others-then, others-two, shift-beyond, shifts-more}
use Rattle.trig_set.proofs.concerned.put_shifts.Goals as goal

pub loop-place-preserved : goal.loop-place-preserved
loop-place-preserved c =
    let kept = c.in_ok-put_some.ensures.kept in
    record {
      kept = λ n none. c.loop-place.invariant.kept n (kept n none);
      aside =
          others-two c.args.owners.now c.put_some.new.places _ _ _
          (λ m told here. shifts-more c.args.index.now c.args.shifts.now m c.loop-place.place c.index-shifts-place.result c.loop-place-test.true told (sym (c.of_entity_near.ensures m) ∙ here))
          (others-more c.args.owners.now c.loop-place.places c.put_some.new.places _ kept c.loop-place.invariant.aside) c.in_ok-put_some.ensures.aside;
    }

pub returns-clause-aside : goal.returns-clause-aside
returns-clause-aside c =
    others-then c.args.owners.now c.loop-place.places _ _
    (λ m told k. elim (leb_tells (length c.args.shifts.now) k) [
      | inl beyond ↦ shift-beyond (λ s. knows c.args.index.now (Subject.Entity s.entity) m ≡ false) c.args.shifts.now k beyond.1
      | inr within ↦ (let below = within.1 in told k (omega (arith, below)))
    ])
    c.loop-place.invariant.aside
