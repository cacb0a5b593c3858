use Rattle.std.proofs.Common.{◌≡◌, ◌∙◌, ◌-◌, ℕ, suc, List, [], ◌∷◌, drop, length, refl, sym, ap, subst, arith, drop-cons}
use Rattle.ha_sight.specs.declared.helped.HelperChange.{HelperChange}
use Rattle.helper_set.specs.Changes.{Changes}
use Rattle.helper_set.proofs.StandLemmas.{changes-more, changes-none}
use Rattle.helper_set.proofs.set.change_all.Goals as goal

drop-whole : (xs : List HelperChange) → drop (length xs) xs ≡ []
drop-whole [] = refl
drop-whole (x ∷ xs) = drop-whole xs

pub changes-init : goal.changes-init
changes-init c = record {
  fits = omega arith;
  made = λ apart. subst (λ l. Changes c.args.at l c.args.timers.now c.args.timers.now c.args.kept.now.items c.args.kept.now.items) (sym (drop-whole c.args.changes.now)) (changes-none c.args.at c.args.timers.now c.args.kept.now.items);
}

pub changes-preserved : goal.changes-preserved
changes-preserved c =
    let n : ℕ = c.changes.left - 1 in
    let all : List HelperChange = c.args.changes.now in
    let t : HelperChange = c.index-changes-left.result in
    let rest : drop n all ≡ t ∷ drop c.changes.left all
    = drop-cons all n t (omega (arith, c.changes-test.true, c.changes.invariant.fits))
    ∙ (λ i. sym c.index-changes-left.is i ∷ drop (suc n) all)
    ∙ (let e : suc n ≡ c.changes.left = omega (arith, c.changes-test.true) in ap (λ m. t ∷ drop m all) e) in
    record {
      fits = omega (arith, c.changes.invariant.fits);
      made = λ apart. subst (λ l. Changes c.args.at l c.args.timers.now c.change_one.new.timers c.args.kept.now.items c.change_one.new.kept.items) (sym rest)
          (changes-more c.args.at t (drop c.changes.left all) c.args.timers.now c.changes.timers c.change_one.new.timers c.args.kept.now.items c.changes.kept.items c.change_one.new.kept.items apart
          (c.changes.invariant.made apart) c.in_ok-change_one.ensures.kept c.in_ok-change_one.ensures.timers);
    }
