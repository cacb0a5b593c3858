-- Numbers of values, taken one after the other.
use Rattle.std.proofs.Common.{◌≡◌, ◌∙◌, ap, ℕ, suc, ◌+◌, refl, Bool, false, List, [], ◌∷◌, ◌++◌, sym, arith}
use Rattle.std.proofs.lemmas.Bool.Decides.{nat_tests}
use Rattle.std.specs.Prelude.{Some, None, nat_le, sum_by}
use Rattle.std.proofs.lemmas.List.Sums.{sum_by-append, sum_by-cons, sum_by_push}
use Rattle.ha_value.specs.declared.value.Value.{Value}
use Rattle.ha_value.specs.declared.value.Value.TheFolds.{fold_out-Value, map-Value}
use Rattle.ha_value.specs.declared.value.Value.TheOpen.{Value-F}
use Rattle.ha_value.specs.declared.value.Value.TheViews.{out-Value}
use Rattle.ha_value.specs.declared.value.Value.TheVariants.{Pairs as Map, outs-Pairs}
use Rattle.ha_config.specs.Words.{Pairs}
use Rattle.tpl_eval.specs.Sizes.{left_of, pairs_size}
use Rattle.ha_sight.specs.Values.{size_of, size_step}

size-pairs : (ps : Pairs) → size_of (Map ps) ≡ suc (pairs_size ps)
size-pairs ps =
    let e : out-Value (Map ps) ≡ Value-F.Pairs ps = simp outs-Pairs in
    fold_out-Value ℕ size_step (Map ps) ∙ ap (λ y. size_step (map-Value Value ℕ size_of y)) e

left_of-suc : (left rest n : ℕ) → left_of left 1 ≡ Some rest → left_of rest n ≡ left_of left (suc n)
left_of-suc left rest n h = by (nat_le 1 left) refl
  where
    by : (b : Bool) → nat_le 1 left ≡ b → left_of rest n ≡ left_of left (suc n)
    by b e = grind (arith, nat_tests, h)

pub pairs-left : (v : Value) (ps : Pairs) (left rest : ℕ) → v ≡ Map ps → left_of left 1 ≡ Some rest → left_of rest (pairs_size ps) ≡ left_of left (size_of v)
pairs-left v ps left rest is h = left_of-suc left rest (pairs_size ps) h ∙ ap (left_of left) (sym (ap size_of is ∙ size-pairs ps))

take-sum : (most left a b rest : ℕ) → left_of most a ≡ Some left → left_of left b ≡ Some rest → left_of most (a + b) ≡ Some rest
take-sum most left a b rest h e = grind (arith, nat_tests, h, e)

past-sum : (most left a b : ℕ) → left_of most a ≡ Some left → left_of left b ≡ None → nat_le (a + b) most ≡ false
past-sum most left a b h e = grind (arith, nat_tests, h, e)

past-more : (most a b : ℕ) → nat_le a most ≡ false → nat_le (a + b) most ≡ false
past-more most a b h = grind (arith, nat_tests, h)

module _ {X : Type 0} (f : X → ℕ) (most left : ℕ) (xs : List X) (known : left_of most (sum_by f xs) ≡ Some left) (x : X) where
  pub taken : (rest : ℕ) → left_of left (f x) ≡ Some rest → left_of most (sum_by f (xs ++ (x ∷ []))) ≡ Some rest
  taken rest h = ap (left_of most) (sum_by_push f xs x) ∙ take-sum most left (sum_by f xs) (f x) rest known h

  pub too-many : (ys : List X) → left_of left (f x) ≡ None → nat_le (sum_by f (xs ++ (x ∷ ys))) most ≡ false
  too-many ys h =
      let e : sum_by f (xs ++ (x ∷ ys)) ≡ (sum_by f xs + f x) + sum_by f ys =
      sum_by-append f xs (x ∷ ys) ∙ ap (λ n. sum_by f xs + n) (sum_by-cons f x ys) ∙ omega arith in
      ap (λ n. nat_le n most) e ∙ past-more most (sum_by f xs + f x) (sum_by f ys) (past-sum most left (sum_by f xs) (f x) known h)
