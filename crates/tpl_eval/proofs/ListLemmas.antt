-- The values of a list of expressions, one after the other.
use Rattle.std.proofs.Common.{◌≡◌, ◌∙◌, ap, ℕ, zero, suc, ◌+◌, ◌<◌, ◌≤◌, refl, List, [], ◌∷◌, ◌++◌, length, get_or, drop, map, sym, arith, drop-cons, append_assoc, append-nil}
use Rattle.std.specs.Prelude.{Option, Some, None, option_map, option_and_then}
use Rattle.ha_value.specs.declared.value.Value.{Value}
use Rattle.ha_config.specs.declared.template.Expr.{Expr}
use Rattle.ha_sight.specs.Sight.{Sight}
use Rattle.ha_config.specs.Words.{Pairs}
use Rattle.ha_sight.specs.Templates.{all_of, value_of}

drop_past : {X : Type 0} (n : ℕ) (xs : List X) → length xs ≤ n → drop n xs ≡ []
drop_past zero [] le = refl
drop_past zero (x ∷ xs) le = absurd (omega arith)
drop_past (suc n) [] le = refl
drop_past (suc n) (x ∷ xs) le = drop_past n xs (omega arith)

module _ (sight : Sight) (env : Pairs) where
  abbrev pub values : List Expr → Option (List Value)
  values xs = all_of sight (map (value_of sight) xs) env

  abbrev pub behind : List Value → Option (List Value) → Option (List Value)
  behind vs = option_map (λ ws. vs ++ ws)

  -- the values so far, and those of the rest, are all
  abbrev pub Continues : List Expr → ℕ → List Value → Type 0
  Continues xs i vs = values xs ≡ behind vs (values (drop i xs))

  pub continues-first : (xs : List Expr) → Continues xs 0 []
  continues-first xs = by (values xs)
    where
      by : (o : Option (List Value)) → o ≡ behind [] o
      by None = refl
      by (Some vs) = refl

  abbrev pub one_more : Option Value → Option (List Value) → Option (List Value)
  one_more v rest = option_and_then (λ x. option_map (λ vs. x ∷ vs) rest) v

  next : (xs : List Expr) (i : ℕ) (x : Expr) → i < length xs → x ≡ get_or xs i x → values (drop i xs) ≡ one_more (value_of sight x env) (values (drop (i + 1) xs))
  next xs i x lt is =
      ap values (drop-cons xs i x lt)
      ∙ (λ k. one_more (value_of sight (sym is k) env) (values (drop (suc i) xs)))
      ∙ (let e : suc i ≡ i + 1 = omega arith in λ k. one_more (value_of sight x env) (values (drop (e k) xs)))

  module _ (xs : List Expr) (i : ℕ) (vs : List Value) (known : Continues xs i vs) where
    pub continues-at : (x : Expr) → i < length xs → x ≡ get_or xs i x → values xs ≡ behind vs (one_more (value_of sight x env) (values (drop (i + 1) xs)))
    continues-at x lt is = known ∙ ap (behind vs) (next xs i x lt is)

    pub continues-more : (x : Expr) (new : List Value) → i < length xs → x ≡ get_or xs i x → option_map (λ v. vs ++ (v ∷ [])) (value_of sight x env) ≡ Some new → Continues xs (i + 1) new
    continues-more x new lt is made = known ∙ ap (behind vs) (next xs i x lt is) ∙ by (value_of sight x env) (values (drop (i + 1) xs)) made
      where
        by : (v : Option Value) (rest : Option (List Value)) → option_map (λ v. vs ++ (v ∷ [])) v ≡ Some new → behind vs (one_more v rest) ≡ behind new rest
        by None rest e = absurd (cc)
        by (Some v) None e = refl
        by (Some v) (Some ws) e = let f : vs ++ (v ∷ []) ≡ new = cc in ap Some (sym (append_assoc vs (v ∷ []) ws) ∙ ap (λ l. l ++ ws) f)

    pub continues-fault : (x : Expr) → i < length xs → x ≡ get_or xs i x → value_of sight x env ≡ None → values xs ≡ None
    continues-fault x lt is none = known ∙ ap (behind vs) (next xs i x lt is ∙ (λ k. one_more (none k) (values (drop (i + 1) xs))))

    pub continues-all : length xs ≤ i → values xs ≡ Some vs
    continues-all le = known ∙ ap (λ ys. behind vs (values ys)) (drop_past i xs le) ∙ ap Some (append-nil vs)
