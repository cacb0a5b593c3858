use Rattle.std.proofs.Common.{◌≡◌, ◌≤◌, ℕ, List, Bool, true, false, [], ◌∷◌, ◌++◌, length, take, drop, refl, sym, ap, subst, ◌∙◌, rules, arith}
use Rattle.std.specs.Prelude.{nat_eq, if◌then◌else◌}
use Rattle.ha_sight.specs.Scripts.{Branch}
use Rattle.ha_ready.specs.ReadyPairs.{changed_at, pairs_from}
use Rattle.ha_ready.proofs.ReadyLemmas.{pairs-same}
use Rattle.engine_parts.specs.Lower.{Ascends, lower}
use Rattle.engine_parts.proofs.PutLemmas.{pairs-ascend, put-at}
use Rattle.ha_engine.proofs.step_end.put_first.Goals as goal

eq-of : (a b : ℕ) → nat_eq a b ≡ true → a ≡ b
eq-of a b e = search (rules, e)

-- a run that has no pairs
unchanged : (s m : ℕ) (by : ℕ → List Branch) → by s ≡ [] → pairs_from 0 m by ≡ pairs_from 0 m (changed_at s [] by)
unchanged s m by none = pairs-same 0 m by (changed_at s [] by) (λ q low high. one q (nat_eq q s) refl)
  where
    one : (q : ℕ) (c : Bool) → nat_eq q s ≡ c → by q ≡ (if c then [] else by q)
    one q true e = ap by (eq-of q s e) ∙ none
    one q false e = refl

pub put_reserved-requires-clause-fits : goal.put_reserved-requires-clause-fits
put_reserved-requires-clause-fits c =
    subst (λ (l : List (ℕ × Branch)). c.lower-at.result ≤ length l) c.as_slice.ensures.value c.lower-at.ensures.fits

pub returns-clause-items : goal.returns-clause-items
returns-clause-items c m by is none low high =
    let s : ℕ = c.args.serial in
    let old : List (ℕ × Branch) = c.args.ready.now.pairs.items in
    let whole = c.as_slice.ensures.value in
    let at = c.lower-at.ensures.lower (subst (Ascends 0) (sym (whole ∙ is)) (pairs-ascend 0 m by)) ∙ ap (lower s) whole in
    let rest : old ≡ pairs_from 0 m (changed_at s [] by) = is ∙ unchanged s m by none in
    c.put_reserved.ensures.items
    ∙ (λ i. take (at i) old ++ ((s, []) ∷ drop (at i) old))
    ∙ (λ i. take (lower s (rest i)) (rest i) ++ ((s, []) ∷ drop (lower s (rest i)) (rest i)))
    ∙ put-at s 0 m ([] ∷ []) by low (omega (arith, high))
