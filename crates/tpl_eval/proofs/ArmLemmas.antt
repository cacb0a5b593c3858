-- The arms of a choice, one after the other.
use Rattle.std.proofs.Common.{◌≡◌, ◌∙◌, ap, ℕ, zero, suc, ◌+◌, ◌<◌, ◌≤◌, Bool, true, false, refl, List, [], ◌∷◌, length, get_or, drop, sym, arith, drop-cons}
use Rattle.std.specs.Prelude.{Option, Some, None, Err, slice_get, option_map, option_and_then, unwrap_or, if◌then◌else◌}
use Rattle.ha_value.specs.declared.value.Value.{Value}
use Rattle.ha_value.specs.Truth.{truth}
use Rattle.ha_sight.specs.declared.faults.TplFault.{TplFault}
use Rattle.ha_config.specs.declared.template.Expr.{Expr}
use Rattle.ha_config.specs.declared.template.Template.{Template}
use Rattle.ha_sight.specs.Sight.{Sight}
use Rattle.ha_config.specs.Words.{Text, Pairs}
use Rattle.ha_sight.specs.Templates.{choose_arm, pieces_of, value_of, TemplateMeaning}
use Rattle.tpl_fns.specs.Outcome.{Gives}
use Rattle.tpl_eval.specs.Pieces.{arms_of, Chooses}

drop_past : {X : Type 0} (n : ℕ) (xs : List X) → length xs ≤ n → drop n xs ≡ []
drop_past zero [] le = refl
drop_past zero (x ∷ xs) le = absurd (omega arith)
drop_past (suc n) [] le = refl
drop_past (suc n) (x ∷ xs) le = drop_past n xs (omega arith)

pub get_here : {X : Type 0} (xs : List X) (i : ℕ) (x : X) → i < length xs → x ≡ get_or xs i x → slice_get xs i ≡ Some x
get_here [] i x lt is = absurd (omega arith)
get_here (y ∷ ys) zero x lt is = ap Some (sym is)
get_here (y ∷ ys) (suc i) x lt is = get_here ys i x (omega arith) is

get_none : {X : Type 0} (xs : List X) → slice_get xs (length xs) ≡ None
get_none [] = refl
get_none (x ∷ xs) = get_none xs

pub get_past : {X : Type 0} (xs : List X) (i : ℕ) → length xs ≤ i → slice_get xs i ≡ None
get_past [] i le = refl
get_past (x ∷ xs) zero le = absurd (omega arith)
get_past (x ∷ xs) (suc i) le = get_past xs i (omega arith)

module _ (sight : Sight) (arms : List (Expr × Template)) (env : Pairs) where
  -- the choice is among the arms from this place on
  abbrev pub Passes : ℕ → Type 0
  Passes i = (fallback : TemplateMeaning sight) → choose_arm sight (arms_of sight arms) fallback env ≡ choose_arm sight (arms_of sight (drop i arms)) fallback env

  module _ (i : ℕ) (known : Passes i) where
    module _ (a : Expr × Template) (lt : i < length arms) (is : a ≡ get_or arms i a) where
      next : (fallback : TemplateMeaning sight) → choose_arm sight (arms_of sight (drop i arms)) fallback env
          ≡ option_and_then (λ v. if truth v then pieces_of sight a.1 env else choose_arm sight (arms_of sight (drop (i + 1) arms)) fallback env) (value_of sight a.0 env)
      next fallback =
          ap (λ l. choose_arm sight (arms_of sight l) fallback env) (drop-cons arms i a lt)
          ∙ (λ k. option_and_then (λ v. if truth v then pieces_of sight (sym is k).1 env else choose_arm sight (arms_of sight (drop (suc i) arms)) fallback env) (value_of sight (sym is k).0 env))
          ∙ (let e : suc i ≡ i + 1 = omega arith in λ k. option_and_then (λ v. if truth v then pieces_of sight a.1 env else choose_arm sight (arms_of sight (drop (e k) arms)) fallback env) (value_of sight a.0 env))

      by_truth : (v : Option Value) (b : Bool) (first rest : Option (Text × Pairs)) → option_map truth v ≡ Some b → option_and_then (λ w. if truth w then first else rest) v ≡ (if b then first else rest)
      by_truth None b first rest h = absurd (cc)
      by_truth (Some w) b first rest h = let e : truth w ≡ b = cc in λ k. if e k then first else rest

      pub arm-passed : (b : Bool) → b ≡ false → option_map truth (value_of sight a.0 env) ≡ Some b → Passes (i + 1)
      arm-passed b f h fallback =
          known fallback ∙ next fallback ∙ by_truth (value_of sight a.0 env) b (pieces_of sight a.1 env) (choose_arm sight (arms_of sight (drop (i + 1) arms)) fallback env) h
          ∙ (λ k. if f k then pieces_of sight a.1 env else choose_arm sight (arms_of sight (drop (i + 1) arms)) fallback env)

      pub arm-found : (b : Bool) → b ≡ true → option_map truth (value_of sight a.0 env) ≡ Some b
          → (fallback : TemplateMeaning sight) → choose_arm sight (arms_of sight arms) fallback env ≡ unwrap_or (option_map (λ x. pieces_of sight x.1) (slice_get arms i)) fallback env
      arm-found b f h fallback =
          known fallback ∙ next fallback ∙ by_truth (value_of sight a.0 env) b (pieces_of sight a.1 env) (choose_arm sight (arms_of sight (drop (i + 1) arms)) fallback env) h
          ∙ (λ k. if f k then pieces_of sight a.1 env else choose_arm sight (arms_of sight (drop (i + 1) arms)) fallback env)
          ∙ (λ k. unwrap_or (option_map (λ x. pieces_of sight x.1) (sym (get_here arms i a lt is) k)) fallback env)

      pub arm-fault : (fault : TplFault) → Gives {X = Bool} (Err fault) (option_map truth (value_of sight a.0 env)) → Chooses sight arms env (Err fault)
      arm-fault TplFault.Fault h = λ fallback. known fallback ∙ next fallback ∙ none (value_of sight a.0 env) (choose_arm sight (arms_of sight (drop (i + 1) arms)) fallback env) h
        where
          none : (v : Option Value) (rest : Option (Text × Pairs)) → option_map truth v ≡ None → option_and_then (λ w. if truth w then pieces_of sight a.1 env else rest) v ≡ None
          none None rest e = refl
          none (Some w) rest e = absurd (cc)
      arm-fault TplFault.Memory h = tt

  pub arms-passed : (i : ℕ) → Passes i → length arms ≤ i
      → (fallback : TemplateMeaning sight) → choose_arm sight (arms_of sight arms) fallback env ≡ unwrap_or (option_map (λ x. pieces_of sight x.1) (slice_get arms (length arms))) fallback env
  arms-passed i known le fallback =
      known fallback ∙ ap (λ l. choose_arm sight (arms_of sight l) fallback env) (drop_past i arms le)
      ∙ (λ k. unwrap_or (option_map (λ x. pieces_of sight x.1) (sym (get_none arms) k)) fallback env)
