use Rattle.std.proofs.Common.{◌≡◌, ◌∙◌, refl, sym, subst}
use Rattle.std.specs.Prelude.{IsNone}
use Rattle.timer_queue.specs.Timers.{due_of}
use Rattle.trig_set.specs.Concerned.{OfOthers}
use Rattle.trig_set.proofs.LeftLemmas.{due-aside, due-end, others-all, put-kept}
use Rattle.trig_set.proofs.RipeLemmas.{none-first}
use Rattle.trig_set.proofs.concerned.put_due.Goals as goal

pub dues-init : goal.dues-init
dues-init c = record {
  kept = λ n none. none;
  same = others-all c.args.owners.now c.args.places.now (λ m. due_of m c.args.queue.now ≡ due_of m c.args.queue.now) (λ m. refl);
}

pub dues-preserved : goal.dues-preserved
dues-preserved c =
    let old = c.dues.places in
    let new = c.insert.new.self in
    let updates = c.in_ok-insert.ensures.updates in
    record {
      kept = λ n none. c.dues.invariant.kept n (put-kept old new c.place_of.result updates n none);
      same = λ n none.
          due-aside c.args.owners.now old new c.place_of.result updates n none c.args.to c.in-Some.owner c.args.queue.now c.dues.queue c.pop_due.new.self
          (sym c.pop_due.ensures.first ∙ c.in-Some.is) c.pop_due.ensures.rest (λ asc. c.place_of.ensures.there asc n) (c.dues.invariant.same n (put-kept old new c.place_of.result updates n none));
    }

pub returns-clause-later : goal.returns-clause-later
returns-clause-later c =
    let none : IsNone c.pop_due.result = subst IsNone (sym c.in_default.is) refl in
    due-end c.args.owners.now c.dues.places c.args.to c.args.queue.now c.dues.queue (c.pop_due.ensures.none.0 none) c.dues.invariant.same

pub returns-clause-queue : goal.returns-clause-queue
returns-clause-queue c =
    subst (λ q. OfOthers c.args.owners.now c.dues.places (λ m. due_of m q ≡ due_of m c.args.queue.now))
    (sym (c.pop_due.ensures.rest ∙ none-first c.args.to c.dues.queue (sym c.pop_due.ensures.first ∙ c.in_default.is))) c.dues.invariant.same
