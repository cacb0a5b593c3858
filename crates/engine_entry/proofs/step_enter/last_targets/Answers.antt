use Rattle.std.proofs.Common.{◌≡◌, ℕ, suc, ◌-◌, List, [], ◌∷◌, drop, get_or, length, false, refl, sym, ap, subst, ◌∙◌, arith, drop-cons}
use Rattle.engine_entry.specs.Lasts.{AreLasts, AreSeen, knows}
use Rattle.engine_entry.specs.Turned.{Target}
use Rattle.engine_entry.proofs.LastLemmas.{lasts-next, lasts-none}
use Rattle.engine_entry.proofs.step_enter.last_targets.Goals as goal

drop-whole : (xs : List Target) → drop (length xs) xs ≡ []
drop-whole [] = refl
drop-whole (x ∷ xs) = drop-whole xs

pub targets-init : goal.targets-init
targets-init c = record {
  fits = omega arith;
  lasts = subst (λ (l : List Target). AreLasts (knows c.args.switches.now) l c.new-kept.result.items) (sym (drop-whole c.args.targets.now))
      (subst (λ (l : List Target). AreLasts (knows c.args.switches.now) [] l) (sym c.new-kept.ensures.items) (lasts-none (knows c.args.switches.now)));
  seen = subst (λ (l : List Target). AreSeen c.none_seen-seen.result l) (sym c.new-kept.ensures.items) c.none_seen-seen.ensures;
}

pub targets-preserved : goal.targets-preserved
targets-preserved c =
    let n : ℕ = c.targets.left - 1 in
    let all : List Target = c.args.targets.now in
    let t : Target = get_or all n (0, false, false) in
    let rest : drop n all ≡ t ∷ drop c.targets.left all
    = drop-cons all n (0, false, false) (omega (arith, c.targets-test.true, c.targets.invariant.fits)) ∙ (let e : suc n ≡ c.targets.left = omega (arith, c.targets-test.true) in ap (λ m. t ∷ drop m all) e) in
    record {
      fits = omega (arith, c.targets.invariant.fits);
      lasts = subst (λ (l : List Target). AreLasts (knows c.args.switches.now) l c.keep.new.kept.items) (sym rest)
          (lasts-next (knows c.args.switches.now) t (drop c.targets.left all) c.targets.kept.items c.keep.new.kept.items c.in_ok-keep.ensures.kept c.targets.invariant.lasts);
      seen = c.in_ok-keep.ensures.seen;
    }
