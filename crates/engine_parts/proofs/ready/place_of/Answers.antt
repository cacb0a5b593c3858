use Rattle.std.proofs.Common.{◌≡◌, ◌+◌, ◌≤◌, ◌-◌, ℕ, suc, List, ◌++◌, length, take, drop, sym, ap, subst, ◌∙◌, arith}
use Rattle.ha_sight.specs.Scripts.{Branch}
use Rattle.engine_parts.specs.Lower.{Ascends, lower}
use Rattle.engine_parts.proofs.PlacedLemmas.{NoneBefore, Passed, earlier-within, none-behind, none-next, passed-lower, passed-next, put-there}
use Rattle.engine_parts.proofs.ready.place_of.Goals as goal

pub pairs-init : goal.pairs-init
pairs-init c =
    let old : List (ℕ × Branch) = c.args.ready.now.pairs.items in
    let s : ℕ = c.args.serial in
    let is = c.as_slice.ensures.value in
    let at : Ascends 0 old → c.lower-at.result ≡ lower s old = λ h. c.lower-at.ensures.lower (subst (Ascends 0) (sym is) h) ∙ ap (lower s) is in
    record {
      fits = subst (λ (l : List (ℕ × Branch)). c.lower-at.result ≤ length l) is c.lower-at.ensures.fits;
      passed = λ h. subst (λ n. Passed s c.args.branch.now n old) (sym (at h)) (passed-lower s c.args.branch.now old);
      later = λ h. subst (λ n. NoneBefore s (drop n old)) (sym (at h)) (none-behind s 0 old h);
    }

next : (n : ℕ) → suc n ≡ n + 1
next n = omega arith

pub pairs-preserved : goal.pairs-preserved
pairs-preserved c =
    let old : List (ℕ × Branch) = c.args.ready.now.pairs.items in
    let s : ℕ = c.args.serial in
    let passed = sym c.earlier_at.ensures ∙ c.pairs-test.true in
    let lt = earlier-within s c.args.branch.now c.pairs.at old passed in
    record {
      fits = omega (arith, lt);
      passed = λ h. subst (λ n. Passed s c.args.branch.now n old) (next c.pairs.at) (passed-next s c.args.branch.now c.pairs.at old passed (c.pairs.invariant.passed h));
      later = λ h. subst (λ n. NoneBefore s (drop n old)) (next c.pairs.at) (none-next s c.pairs.at old (c.pairs.invariant.later h));
    }

pub pairs-smaller : goal.pairs-smaller
pairs-smaller c =
    let lt = earlier-within c.args.serial c.args.branch.now c.pairs.at c.args.ready.now.pairs.items (sym c.earlier_at.ensures ∙ c.pairs-test.true) in
    omega (arith, lt)

pub overflow_add-at : goal.overflow_add-at
overflow_add-at c =
    let lt = earlier-within c.args.serial c.args.branch.now c.pairs.at c.args.ready.now.pairs.items (sym c.earlier_at.ensures ∙ c.pairs-test.true) in
    omega (arith, lt, c.args.ready.now.pairs.ok.0, c.args.ready.now.pairs.small)

pub returns-clause-place : goal.returns-clause-place
returns-clause-place c h =
    let old : List (ℕ × Branch) = c.args.ready.now.pairs.items in
    let s : ℕ = c.args.serial in
    let b : Branch = c.args.branch.now in
    ap (λ (l : List (ℕ × Branch)). take c.pairs.at old ++ l) (sym (put-there s b c.pairs.at old (sym c.earlier_at.ensures ∙ c.pairs-test.false) (c.pairs.invariant.later h)))
    ∙ c.pairs.invariant.passed h
