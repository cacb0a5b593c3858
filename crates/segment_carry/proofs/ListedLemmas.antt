-- What is listed of automations with distinct names is found under each name.
use Rattle.std.proofs.Common.{◌≡◌, ◌∙◌, ap, refl, sym, ℕ, zero, suc, ◌+◌, Bool, true, false, Option, List, [], ◌∷◌, ◌++◌, ◌||◌, arith, true≢false}
use Rattle.std.specs.Prelude.{Some, None, filter_map, option_map, not, slice_get, if◌then◌else◌, ◌&&◌}
use Rattle.std.specs.List.{cons_option, enumerate_from, list_any}
use Rattle.ha_config.specs.declared.config.Automation.{Automation}
use Rattle.ha_config.specs.Words.{Text, same}
use Rattle.ha_config.specs.ValueFacts.{all_distinct}
use Rattle.ha_config.proofs.EqualLemmas.{same-refl, same-sound}
use Rattle.ha_config.proofs.ListLemmas.{none-some, some-same}
use Rattle.ha_whole.specs.Named.{named}
use Rattle.ha_config.specs.Names.{names_of}
use Rattle.whole_laws.specs.Apart.{AreApart}
use Rattle.segment_carry.proofs.ByNameLemmas.{given}

either : (a b : Bool) → (a || b) ≡ false → (a ≡ false) × (b ≡ false)
either true b h = absurd (true≢false h)
either false b h = (refl, h)

distinct-parts : (a b : Bool) → (not a && b) ≡ true → (a ≡ false) × (b ≡ true)
distinct-parts true b h = absurd (true≢false (sym h))
distinct-parts false b h = (refl, h)

turned : (s t : Text) → same s t ≡ false → same t s ≡ false
turned s t h = by (same t s) refl
  where
    by : (b : Bool) → same t s ≡ b → same t s ≡ false
    by true e = absurd (true≢false (sym (sym h ∙ (λ i. same (sym (same-sound t s e) i) t) ∙ same-refl t)))
    by false e = e

not-there : (t : Text) (xs : List Automation) (i : ℕ) (x : Automation) → list_any (same t) (names_of xs) ≡ false → slice_get xs i ≡ Some x → same t x.name ≡ false
not-there t [] i x h is = absurd (none-some x is)
not-there t (y ∷ ys) zero x h is = (λ i. same t (sym (some-same y x is) i).name) ∙ (either (same t y.name) (list_any (same t) (names_of ys)) h).0
not-there t (y ∷ ys) (suc i) x h is = not-there t ys i x (either (same t y.name) (list_any (same t) (names_of ys)) h).1 is

module _ {X : Type 0} (value : ℕ → Option X) where
  pairs : ℕ → List Automation → List (Text × X)
  pairs n xs = filter_map (given value) (enumerate_from n xs)

  -- a name that none of these has is not found
  none-found : (t : Text) (n : ℕ) (xs : List Automation) → list_any (same t) (names_of xs) ≡ false → named {X = X} t (pairs n xs) ≡ None
  unfolding pairs
  none-found t n [] h = refl
  none-found t n (x ∷ xs) h =
      let parts = either (same t x.name) (list_any (same t) (names_of xs)) h in
      by (value n) (turned t x.name parts.0) (none-found t (n + 1) xs parts.1)
    where
      by : (o : Option X) → same x.name t ≡ false → named {X = X} t (pairs (n + 1) xs) ≡ None → named {X = X} t (cons_option (option_map (λ v. (x.name, v)) o) (pairs (n + 1) xs)) ≡ None
      by None e rest = rest
      by (Some v) e rest = (λ i. if e i then Some v else rest i)

  found-from : (n : ℕ) (xs : List Automation) (i : ℕ) (x : Automation) → all_distinct (names_of xs) ≡ true → slice_get xs i ≡ Some x → named {X = X} x.name (pairs n xs) ≡ value (n + i)
  unfolding pairs
  found-from n [] i x d is = absurd (none-some x is)
  found-from n (y ∷ ys) zero x d is =
      let parts = distinct-parts (list_any (same y.name) (names_of ys)) (all_distinct (names_of ys)) d in
      let e : n ≡ n + 0 = omega arith in
      (λ i. named {X = X} (sym (some-same y x is) i).name (pairs n (y ∷ ys))) ∙ by (value n) (none-found y.name (n + 1) ys parts.0) ∙ ap value e
    where
      by : (o : Option X) → named {X = X} y.name (pairs (n + 1) ys) ≡ None → named {X = X} y.name (cons_option (option_map (λ v. (y.name, v)) o) (pairs (n + 1) ys)) ≡ o
      by None rest = rest
      by (Some v) rest = (λ i. if same-refl y.name i then Some v else named {X = X} y.name (pairs (n + 1) ys))
  found-from n (y ∷ ys) (suc i) x d is =
      let parts = distinct-parts (list_any (same y.name) (names_of ys)) (all_distinct (names_of ys)) d in
      let e : (n + 1) + i ≡ n + suc i = omega arith in
      by (value n) (not-there y.name ys i x parts.0 is) ∙ found-from (n + 1) ys i x parts.1 is ∙ ap value e
    where
      by : (o : Option X) → same y.name x.name ≡ false → named {X = X} x.name (cons_option (option_map (λ v. (y.name, v)) o) (pairs (n + 1) ys)) ≡ named {X = X} x.name (pairs (n + 1) ys)
      by None e = refl
      by (Some v) e = (λ i. if e i then Some v else named {X = X} x.name (pairs (n + 1) ys))

  apart-from : (n : ℕ) (xs : List Automation) → all_distinct (names_of xs) ≡ true → AreApart {X = X} (pairs n xs)
  unfolding pairs
  apart-from n [] d = tt
  apart-from n (x ∷ xs) d =
      let parts = distinct-parts (list_any (same x.name) (names_of xs)) (all_distinct (names_of xs)) d in
      by (value n) (none-found x.name (n + 1) xs parts.0) (apart-from (n + 1) xs parts.1)
    where
      by : (o : Option X) → named {X = X} x.name (pairs (n + 1) xs) ≡ None → AreApart {X = X} (pairs (n + 1) xs) → AreApart {X = X} (cons_option (option_map (λ v. (x.name, v)) o) (pairs (n + 1) xs))
      by None none rest = rest
      by (Some v) none rest = (none, rest)

  -- LAW: what is listed of automations whose names differ is found under each name
  pub listed-found : (all : List Automation) (a : ℕ) (x : Automation) → all_distinct (names_of all) ≡ true → slice_get all a ≡ Some x → named {X = X} x.name (filter_map (given value) (enumerate_from 0 all)) ≡ value a
  unfolding pairs
  listed-found all a x d is = (let e : 0 + a ≡ a = omega arith in found-from 0 all a x d is ∙ ap value e)

  -- and the names of what is listed differ
  pub listed-apart : (all : List Automation) → all_distinct (names_of all) ≡ true → AreApart {X = X} (filter_map (given value) (enumerate_from 0 all))
  unfolding pairs
  listed-apart all d = apart-from 0 all d

fewer : (t : Text) (xs ys : List Automation) → list_any (same t) (names_of (xs ++ ys)) ≡ false → list_any (same t) (names_of xs) ≡ false
fewer t [] ys h = refl
fewer t (x ∷ xs) ys h =
    let parts = either (same t x.name) (list_any (same t) (names_of (xs ++ ys))) h in
    λ i. parts.0 i || fewer t xs ys parts.1 i

-- LAW: where the names of all differ, those of the first ones do
pub front-apart : (xs ys : List Automation) → all_distinct (names_of (xs ++ ys)) ≡ true → all_distinct (names_of xs) ≡ true
front-apart [] ys d = refl
front-apart (x ∷ xs) ys d =
    let parts = distinct-parts (list_any (same x.name) (names_of (xs ++ ys))) (all_distinct (names_of (xs ++ ys))) d in
    λ i. not (fewer x.name xs ys parts.0 i) && front-apart xs ys parts.1 i
