-- Whether one of a list passes: with one more, and of a part.
use Rattle.std.proofs.Common.{◌≡◌, ℕ, zero, suc, ◌+◌, ◌<◌, List, [], ◌∷◌, ◌++◌, length, take, get_or, Bool, true, false, refl, sym, ap, ◌∙◌}
use Rattle.std.specs.Prelude.{Option, Some, None, not, slice_get, ◌&&◌, ◌||◌}
use Rattle.std.specs.List.{list_any}
use Rattle.std.proofs.lemmas.List.{take_more}

pub or-true : (b : Bool) → (b || true) ≡ true
or-true true = refl
or-true false = refl

pub or-false : (b : Bool) → (b || false) ≡ b
or-false true = refl
or-false false = refl

pub or-turned : (a b c : Bool) → (a || (b || c)) ≡ (b || (a || c))
or-turned true true c = refl
or-turned true false c = refl
or-turned false true c = refl
or-turned false false c = refl

or-joined : (a b c : Bool) → (a || (b || c)) ≡ ((a || b) || c)
or-joined true b c = refl
or-joined false b c = refl

and-joined : (a b c : Bool) → (not a && (not b && c)) ≡ (not (a || b) && c)
and-joined true b c = refl
and-joined false b c = refl

any-more : {X : Type 0} (f : X → Bool) (xs : List X) (x : X) → list_any f (xs ++ (x ∷ [])) ≡ (f x || list_any f xs)
any-more f [] x = refl
any-more f (y ∷ ys) x = (λ i. f y || any-more f ys x i) ∙ or-turned (f y) (f x) (list_any f ys)

any-front : {X : Type 0} (f : X → Bool) (n : ℕ) (xs : List X) → list_any f (take n xs) ≡ true → list_any f xs ≡ true
any-front f zero [] h = h
any-front f (suc n) [] h = h
any-front f zero (x ∷ xs) h = absurd (let bad : ◌≡◌ {A = Bool} false true = h in cc)
any-front f (suc n) (x ∷ xs) h = by (f x) (any-front f n xs) h
  where
    by : (b : Bool) → (list_any f (take n xs) ≡ true → list_any f xs ≡ true) → (b || list_any f (take n xs)) ≡ true → (b || list_any f xs) ≡ true
    by true g h = refl
    by false g h = g h

-- LAW: one passes where that at a place does
pub any-at : {X : Type 0} (f : X → Bool) (xs : List X) (n : ℕ) (x : X) → slice_get xs n ≡ Some x → f x ≡ true → list_any f xs ≡ true
any-at f [] n x at h = absurd (let bad : ◌≡◌ {A = Option _} None (Some x) = at in cc)
any-at f (y ∷ ys) zero x at h = (let e : y ≡ x = cc in (λ i. f (e i) || list_any f ys) ∙ (λ i. h i || list_any f ys))
any-at f (y ∷ ys) (suc n) x at h = (λ i. f y || any-at f ys n x at h i) ∙ or-true (f y)

module _ {X : Type 0} (f : X → Bool) (xs : List X) (at : ℕ) (d : X) (lt : at < length xs) (old mid new : Bool) where
  first-more : list_any f (take (at + 1) xs) ≡ (f (get_or xs at d) || list_any f (take at xs))
  first-more = (λ i. list_any f (take_more xs at d lt i)) ∙ any-more f (take at xs) (get_or xs at d)

  -- LAW: one more was put in
  pub any-put : new ≡ (f (get_or xs at d) || mid) → mid ≡ (list_any f (take at xs) || old) → new ≡ (list_any f (take (at + 1) xs) || old)
  any-put e h =
      e ∙ (λ i. f (get_or xs at d) || h i) ∙ or-joined (f (get_or xs at d)) (list_any f (take at xs)) old ∙ (λ i. sym first-more i || old)

  -- LAW: one more was taken out
  pub any-taken : new ≡ (not (f (get_or xs at d)) && mid) → mid ≡ (not (list_any f (take at xs)) && old) → new ≡ (not (list_any f (take (at + 1) xs)) && old)
  any-taken e h =
      e ∙ (λ i. not (f (get_or xs at d)) && h i) ∙ and-joined (f (get_or xs at d)) (list_any f (take at xs)) old ∙ (λ i. not (sym first-more i) && old)

module _ {X : Type 0} (f : X → Bool) (xs : List X) (at : ℕ) (d : X) (lt : at < length xs) (old mid : Bool) where
  -- LAW: what a part of them has is had of all
  pub any-part : (f (get_or xs at d) || mid) ≡ true → mid ≡ (list_any f (take at xs) || old) → (list_any f xs || old) ≡ true
  any-part e h = by (list_any f (take (at + 1) xs)) (any-front f (at + 1) xs) (sym (any-put f xs at d lt old mid (f (get_or xs at d) || mid) refl h) ∙ e)
    where
      by : (b : Bool) → (b ≡ true → list_any f xs ≡ true) → (b || old) ≡ true → (list_any f xs || old) ≡ true
      by true g k = ap (λ c. c || old) (g refl)
      by false g k = ap (λ c. list_any f xs || c) k ∙ or-true (list_any f xs)

-- LAW: and all that was there is
pub any-kept : (some old new : Bool) → new ≡ (some || old) → old ≡ true → new ≡ true
any-kept some old new is h = is ∙ ap (λ c. some || c) h ∙ or-true some
