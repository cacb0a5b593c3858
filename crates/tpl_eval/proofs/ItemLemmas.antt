-- The values of a list in brackets, one after the other, while what is left has room for them.
use Rattle.std.proofs.Common.{◌≡◌, ◌∙◌, ap, ℕ, ◌+◌, ◌<◌, ◌≤◌, refl, Bool, true, false, List, [], ◌∷◌, ◌++◌, length, get_or, drop, sym, arith}
use Rattle.std.proofs.lemmas.Bool.Decides.{nat_tests}
use Rattle.std.specs.Prelude.{Option, Some, None, Err, Ok, nat_le, sum_by, option_map, option_and_then, if◌then◌else◌}
use Rattle.ha_value.specs.declared.value.Value.{Value}
use Rattle.ha_value.specs.declared.value.Value.TheVariants.{Items}
use Rattle.ha_sight.specs.declared.faults.TplFault.{TplFault}
use Rattle.ha_config.specs.declared.template.Expr.{Expr}
use Rattle.ha_sight.specs.Sight.{Sight}
use Rattle.ha_config.specs.Words.{Pairs}
use Rattle.ha_sight.specs.Templates.{value_of}
use Rattle.ha_sight.specs.Values.{bounded_items, most_values, size_of}
use Rattle.tpl_fns.specs.Outcome.{Gives}
use Rattle.tpl_eval.specs.Sizes.{left_of, PutsWithin}
use Rattle.tpl_eval.proofs.ListLemmas.{continues-all, continues-at, continues-more, Continues, values}
use Rattle.tpl_eval.proofs.SizeLemmas.{taken, too-many}

-- what is left when these are there
abbrev pub HasRoom : ℕ → List Value → Type 0
HasRoom left vs = left_of most_values (sum_by size_of vs) ≡ Some left

pub room-first : HasRoom most_values []
room-first = by most_values
  where
    by : (n : ℕ) → left_of n 0 ≡ Some n
    by n = grind (arith, nat_tests)

within : (left most n : ℕ) → left_of most n ≡ Some left → nat_le n most ≡ true
within left most n h = grind (arith, nat_tests, h)

if_true : {A : Type 0} (b : Bool) (x y : A) → b ≡ true → (if b then x else y) ≡ x
if_true true x y e = refl
if_true false x y e = absurd (cc)

if_false : {A : Type 0} (b : Bool) (x y : A) → b ≡ false → (if b then x else y) ≡ y
if_false true x y e = absurd (cc)
if_false false x y e = refl

pub bounded-within : (left : ℕ) (vs : List Value) → HasRoom left vs → bounded_items vs ≡ Some (Items vs)
bounded-within left vs room = if_true (nat_le (sum_by size_of vs) most_values) (Some (Items vs)) None (within left most_values (sum_by size_of vs) room)

module _ (left : ℕ) (vs : List Value) (room : HasRoom left vs) where
  pub room-more : (v : Value) (new : List Value) (rest : ℕ) → new ≡ vs ++ (v ∷ []) → left_of left (size_of v) ≡ Some rest → HasRoom rest new
  room-more v new rest is h = ap (λ l. left_of most_values (sum_by size_of l)) is ∙ taken size_of most_values left vs room v rest h

  no-room : (v : Value) (ws : List Value) → left_of left (size_of v) ≡ None → bounded_items (vs ++ (v ∷ ws)) ≡ None
  no-room v ws h = if_false (nat_le (sum_by size_of (vs ++ (v ∷ ws))) most_values) (Some (Items (vs ++ (v ∷ ws)))) None (too-many size_of most_values left vs room v ws h)

  -- no value, or one that is too large, makes the whole list a fault, whatever follows
  pub none-behind : (given : Option Value) (after : Option (List Value)) → option_and_then (λ v. left_of left (size_of v)) given ≡ None
      → option_and_then bounded_items (option_map (λ ws. vs ++ ws) (option_and_then (λ x. option_map (λ ws. x ∷ ws) after) given)) ≡ None
  none-behind None after h = refl
  none-behind (Some v) None h = refl
  none-behind (Some v) (Some ws) h = no-room v ws h

module _ (sight : Sight) (env : Pairs) where
  -- the values so far, with what is left of the bound
  abbrev pub GoesOn : List Expr → ℕ → ℕ → List Value → Type 0
  GoesOn xs i left vs = Continues sight env xs i vs × HasRoom left vs

  abbrev whole : List Expr → Option Value
  whole xs = option_and_then bounded_items (values sight env xs)

  module _ (xs : List Expr) (i left : ℕ) (vs : List Value) (known : GoesOn xs i left vs) where
    pub items-all : length xs ≤ i → whole xs ≡ Some (Items vs)
    items-all le = ap (option_and_then bounded_items) (continues-all sight env xs i vs known.0 le) ∙ bounded-within left vs known.1

    module _ (x : Expr) (new : List Value) (lt : i < length xs) (is : x ≡ get_or xs i x) where
      pub items-fault : (fault : TplFault) → PutsWithin left vs new (value_of sight x env) (Err fault) → Gives {X = Value} (Err fault) (whole xs)
      items-fault TplFault.Fault put =
          ap (option_and_then bounded_items) (continues-at sight env xs i vs known.0 x lt is)
          ∙ none-behind left vs known.1 (value_of sight x env) (values sight env (drop (i + 1) xs)) put
      items-fault TplFault.Memory put = tt

      pub items-more : (rest : ℕ) → PutsWithin left vs new (value_of sight x env) (Ok rest) → GoesOn xs (i + 1) rest new
      items-more rest put =
          let made : option_map (λ v. vs ++ (v ∷ [])) (value_of sight x env) ≡ Some new =
          ap (option_map (λ v. vs ++ (v ∷ []))) put.1 ∙ ap Some (sym put.2) in
          (continues-more sight env xs i vs known.0 x new lt is made, room-more left vs known.1 put.0 new rest put.2 put.3)
