use Rattle.std.proofs.Common.{◌≡◌, ◌∙◌, sym, arith, inl, inr, length, false}
use Rattle.std.proofs.lemmas.Bool.Decides.{leb_tells}
use Rattle.event_bus.specs.Subjects.{Subject, knows}
use Rattle.trig_set.proofs.LeftLemmas.{shift-beyond, shifts-more}
use Rattle.trig_set.proofs.many_spots.put_shifts.Goals as goal

pub loop-at-preserved : goal.loop-at-preserved
loop-at-preserved c =
    let kept = c.in_ok-put_any.ensures.kept in
    record {
      kept = λ n none. c.loop-at.invariant.kept n (kept n none);
      aside = λ n none.
          shifts-more c.args.index.now c.args.shifts.now n c.loop-at.at c.index-shifts-at.result c.loop-at-test.true (c.loop-at.invariant.aside n (kept n none))
          (sym (c.of_entity.ensures n) ∙ c.in_ok-put_any.ensures.aside n none);
    }

pub returns-clause-aside : goal.returns-clause-aside
returns-clause-aside c n none k = elim (leb_tells (length c.args.shifts.now) k) [
  | inl beyond ↦ shift-beyond (λ s. knows c.args.index.now (Subject.Entity s.entity) n ≡ false) c.args.shifts.now k beyond.1
  | inr within ↦ (let below = within.1 in c.loop-at.invariant.aside n none k (omega (arith, below)))
]
