-- The last item of a list, and the best of its numbers.
use Rattle.std.proofs.Common.{◌≡◌, ◌∙◌, ◌≤◌, ap, ℕ, zero, suc, ◌+◌, ◌-◌, ◌<◌, refl, List, [], ◌∷◌, length, get_or, drop, sym, arith, drop-cons}
use Rattle.std.specs.Prelude.{Option, Some, None, slice_get, option_and_then, option_map, if◌then◌else◌}
use Rattle.ha_value.specs.declared.value.Num.{Num}
use Rattle.ha_value.specs.declared.value.Value.{Value}
use Rattle.ha_config.specs.Words.{last_of}
use Rattle.ha_sight.specs.Values.{number_of}
use Rattle.ha_sight.specs.Filters.{all_numbers, best, best_of}
use Rattle.tpl_fns.specs.declared.lists.Side.{Side}
use Rattle.tpl_fns.specs.Extremes.{beats, better}

pub last_is : {X : Type 0} (xs : List X) → slice_get xs (length xs - 1) ≡ last_of xs
last_is [] = refl
last_is (x ∷ []) = refl
last_is (x ∷ y ∷ xs) = (let e : length (x ∷ y ∷ xs) - 1 ≡ suc (length (y ∷ xs) - 1) = omega arith in ap (slice_get (x ∷ y ∷ xs)) e) ∙ last_is (y ∷ xs)

drop_past : (n : ℕ) (xs : List Value) → length xs ≤ n → drop n xs ≡ []
drop_past zero [] le = refl
drop_past zero (x ∷ xs) le = absurd (omega arith)
drop_past (suc n) [] le = refl
drop_past (suc n) (x ∷ xs) le = drop_past n xs (omega arith)

module _ (side : Side) where
  -- the best of the values so far and of those that follow, if these are numbers
  pub best_from : Option Num → List Value → Option (Option Num)
  best_from so_far [] = Some so_far
  best_from so_far (v ∷ vs) = option_and_then (λ n. best_from (Some (better side so_far n)) vs) (number_of v)

  pub best-empty : (so_far : Option Num) → best_from so_far [] ≡ Some so_far
  unfolding best_from
  best-empty so_far = refl

  -- one value more
  pub best-step : (so_far : Option Num) (vs : List Value) (i : ℕ) (v : Value) → i < length vs → v ≡ get_or vs i v
      → best_from so_far (drop i vs) ≡ option_and_then (λ n. best_from (Some (better side so_far n)) (drop (i + 1) vs)) (number_of v)
  unfolding best_from
  best-step so_far vs i v lt is =
      ap (best_from so_far) (drop-cons vs i v lt)
      ∙ (λ k. option_and_then (λ n. best_from (Some (better side so_far n)) (drop (suc i) vs)) (number_of (sym is k)))
      ∙ (let e : suc i ≡ i + 1 = omega arith in λ k. option_and_then (λ n. best_from (Some (better side so_far n)) (drop (e k) vs)) (number_of v))

  -- after a number, the best is the best of all
  after_one : (n : Num) (vs : List Value) → option_and_then (option_map Value.Number) (best_from (Some n) vs) ≡ option_and_then (λ ns. Some (Value.Number (best (beats side) n ns))) (all_numbers vs)
  unfolding best_from
  after_one n [] = refl
  after_one n (v ∷ vs) = by (number_of v) (λ x. after_one (if beats side x n then x else n) vs)
    where
      shifted : (x : Num) (o : Option (List Num))
          → option_and_then (λ ns. Some (Value.Number (best (beats side) (if beats side x n then x else n) ns))) o
          ≡ option_and_then (λ ns. Some (Value.Number (best (beats side) n ns))) (option_map (λ ns. x ∷ ns) o)
      shifted x None = refl
      shifted x (Some ns) = refl

      by : (o : Option Num)
          → ((x : Num) → option_and_then (option_map Value.Number) (best_from (Some (if beats side x n then x else n)) vs)
          ≡ option_and_then (λ ns. Some (Value.Number (best (beats side) (if beats side x n then x else n) ns))) (all_numbers vs))
          → option_and_then (option_map Value.Number) (option_and_then (λ x. best_from (Some (better side (Some n) x)) vs) o)
          ≡ option_and_then (λ ns. Some (Value.Number (best (beats side) n ns))) (option_and_then (λ x. option_map (λ ns. x ∷ ns) (all_numbers vs)) o)
      by None h = refl
      by (Some x) h = h x ∙ shifted x (all_numbers vs)

  pub best-is : (vs : List Value) → option_and_then (option_map Value.Number) (best_from None vs) ≡ option_and_then (best_of (beats side)) (all_numbers vs)
  unfolding best_from
  best-is [] = refl
  best-is (v ∷ vs) = by (number_of v)
    where
      shifted : (x : Num) (o : Option (List Num))
          → option_and_then (λ ns. Some (Value.Number (best (beats side) x ns))) o ≡ option_and_then (best_of (beats side)) (option_map (λ ns. x ∷ ns) o)
      shifted x None = refl
      shifted x (Some ns) = refl

      by : (o : Option Num)
          → option_and_then (option_map Value.Number) (option_and_then (λ x. best_from (Some (better side None x)) vs) o)
          ≡ option_and_then (best_of (beats side)) (option_and_then (λ x. option_map (λ ns. x ∷ ns) (all_numbers vs)) o)
      by None = refl
      by (Some x) = after_one x vs ∙ shifted x (all_numbers vs)

  module _ (vs : List Value) (so_far : Option Num) (i : ℕ) (known : best_from None vs ≡ best_from so_far (drop i vs)) where
    abbrev after_this : List Value → Num → Option (Option Num)
    after_this rest n = best_from (Some (better side so_far n)) rest

    -- one more number
    pub best-more : (v : Value) (n : Num) (m : Num) → i < length vs → v ≡ get_or vs i v → Some n ≡ number_of v → m ≡ better side so_far n
        → best_from None vs ≡ best_from (Some m) (drop (i + 1) vs)
    best-more v n m lt is number made =
        known ∙ best-step so_far vs i v lt is ∙ (λ k. option_and_then (after_this (drop (i + 1) vs)) (sym number k)) ∙ (λ k. best_from (Some (sym made k)) (drop (i + 1) vs))

    -- a value that is no number
    pub best-none : (v : Value) → i < length vs → v ≡ get_or vs i v → None ≡ number_of v → option_and_then (best_of (beats side)) (all_numbers vs) ≡ None
    best-none v lt is number =
        sym (best-is vs)
        ∙ ap (option_and_then (option_map Value.Number)) (known ∙ best-step so_far vs i v lt is ∙ (λ k. option_and_then (after_this (drop (i + 1) vs)) (sym number k)))

    -- no value is left
    pub best-all : length vs ≤ i → option_map Value.Number so_far ≡ option_and_then (best_of (beats side)) (all_numbers vs)
    best-all le = sym (ap (option_and_then (option_map Value.Number)) (known ∙ ap (best_from so_far) (drop_past i vs le) ∙ best-empty so_far)) ∙ best-is vs
