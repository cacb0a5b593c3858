-- Finding in two lists, in a list that was changed item by item, and one place further.
use Rattle.std.proofs.Common.{◌≡◌, ◌∙◌, ◌<◌, ◌+◌, ap, refl, ℕ, Bool, true, false, cond, List, [], ◌∷◌, ◌++◌, map, length, drop, get_or, Option, Some}
use Rattle.std.specs.Prelude.{option_map, slice_get}
use Rattle.std.specs.Option.{option_or}
use Rattle.std.specs.List.{find}
use Rattle.std.proofs.lemmas.List.{drop_more}
use Rattle.std.proofs.lemmas.List.Folds.{find-append}
use Rattle.std.proofs.lemmas.Option.{slice_get-get_or}

pub find_append : {A : Type 0} (test : A → Bool) (xs ys : List A) → find test (xs ++ ys) ≡ option_or (find test xs) (find test ys)
find_append test xs ys = find-append test xs ys

by_test : {A B : Type 0} (g : A → B) (x : A) (b : Bool) (o : Option B) (o' : Option A) → o ≡ option_map g o' → cond b (Some (g x)) o ≡ option_map g (cond b (Some x) o')
by_test g x true o o' h = refl
by_test g x false o o' h = h

pub find_changed : {A B : Type 0} (test : B → Bool) (g : A → B) (xs : List A) → find test (map g xs) ≡ option_map g (find (λ x. test (g x)) xs)
find_changed test g [] = refl
find_changed test g (x ∷ xs) = by_test g x (test (g x)) (find test (map g xs)) (find (λ y. test (g y)) xs) (find_changed test g xs)

module _ {A : Type 0} (test : A → Bool) (xs : List A) (i : ℕ) (x : A) (within : i < length xs) (here : get_or xs i x ≡ x) where
  at_place : find test (drop i xs) ≡ cond (test x) (Some x) (find test (drop (i + 1) xs))
  at_place = ap (find test) (drop_more xs i x within ∙ ap (λ v. v ∷ drop (i + 1) xs) here)

  pub found_here : test x ≡ true → find test (drop i xs) ≡ Some x
  found_here passes = at_place ∙ ap (λ b. cond b (Some x) (find test (drop (i + 1) xs))) passes

  pub found_further : test x ≡ false → find test (drop i xs) ≡ find test (drop (i + 1) xs)
  found_further fails = at_place ∙ ap (λ b. cond b (Some x) (find test (drop (i + 1) xs))) fails

-- the item at a place
pub at_index : {A : Type 0} (xs : List A) (i : ℕ) (x : A) → i < length xs → get_or xs i x ≡ x → slice_get xs i ≡ Some x
at_index xs i x within here = slice_get-get_or xs i x within ∙ ap Some here
