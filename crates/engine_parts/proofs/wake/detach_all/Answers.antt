use Rattle.std.proofs.Common.{◌≡◌, ℕ, suc, ◌+◌, ◌<◌, List, ◌∷◌, drop, length, get_or, sym, ap, subst, ◌∙◌, arith, drop-cons}
use Rattle.trig_set.specs.Stands.{attached}
use Rattle.engine_parts.specs.Pending.{AreOthers, AreWaits}
use Rattle.engine_parts.specs.Without.{without_owners}
use Rattle.engine_parts.proofs.WaitWords.{others-less}
use Rattle.engine_parts.proofs.wake.detach_all.Goals as goal

next : (i : ℕ) (xs : List ℕ) → i < length xs → drop i xs ≡ get_or xs i 0 ∷ drop (i + 1) xs
next i xs lt = drop-cons xs i 0 lt ∙ (let e : suc i ≡ i + 1 = omega arith in ap (λ n. get_or xs i 0 ∷ drop n xs) e)

pub owners-preserved : goal.owners-preserved
owners-preserved c = record {
  rest =
      ap (without_owners (drop (c.owners.owner-index + 1) c.args.owners.now)) c.detach.ensures.rest
      ∙ sym (ap (λ l. without_owners l (attached c.owners.triggers)) (next c.owners.owner-index c.args.owners.now c.owners-test.true)) ∙ c.owners.invariant.rest;
  stands = λ j h. c.detach.ensures.stands j (c.owners.invariant.stands j h);
  owned = λ j w waits others owned.
      (let now = c.owners.invariant.owned j w waits others owned in
      let cut = next c.owners.owner-index c.args.owners.now c.owners-test.true in
      let waits' = subst (λ (l : List ℕ). AreWaits l) cut now.0 in
      let others' = subst (λ (l : List ℕ). AreOthers l w.asks) cut now.1 in (
        waits'.1,
        others-less (get_or c.args.owners.now c.owners.owner-index 0) (drop (c.owners.owner-index + 1) c.args.owners.now) w.asks others',
        c.detach.ensures.owned j (drop (c.owners.owner-index + 1) c.args.owners.now) w waits'.0 others' now.2,
      ));
}

pub returns-clause-owned : goal.returns-clause-owned
returns-clause-owned c j w waits others owned = (c.owners.invariant.owned j w waits others owned).2
