-- A place in lists that stand behind each other.
use Rattle.std.proofs.Common.{◌≡◌, ◌∙◌, ◌+◌, ◌-◌, ◌<◌, ◌≤◌, ℕ, zero, suc, List, [], ◌∷◌, ◌++◌, length, get_or, drop, sym, ap, arith}
use Rattle.std.specs.Prelude.{Some, flat_map, slice_get}
use Rattle.std.proofs.lemmas.List.{drop_more}

front : {X : Type 0} (xs ys : List X) (n : ℕ) (x : X) → n < length xs → x ≡ get_or xs n x → slice_get (xs ++ ys) n ≡ Some x
front [] ys n x lt is = absurd (omega (arith, lt))
front (y ∷ xs) ys zero x lt is = ap Some (sym is)
front (y ∷ xs) ys (suc n) x lt is = front xs ys n x (omega (arith, lt)) is

behind : {X : Type 0} (xs ys : List X) (n : ℕ) → length xs ≤ n → slice_get (xs ++ ys) n ≡ slice_get ys (n - length xs)
behind [] ys n le = (let e : n ≡ n - 0 = omega arith in ap (slice_get ys) e)
behind (y ∷ xs) ys zero le = absurd (omega (arith, le))
behind (y ∷ xs) ys (suc n) le = behind xs ys n (omega (arith, le)) ∙ (let e : n - length xs ≡ suc n - suc (length xs) = omega arith in ap (slice_get ys) e)

module _ {A X : Type 0} (f : A → List X) (all : List A) (i n : ℕ) (a : A) (lt : i < length all) (here : a ≡ get_or all i a) where
  one : flat_map f (drop i all) ≡ f a ++ flat_map f (drop (i + 1) all)
  one = ap (flat_map f) (drop_more all i a lt ∙ ap (λ v. v ∷ drop (i + 1) all) (sym here))

  pub found-here : (x : X) → n < length (f a) → x ≡ get_or (f a) n x → slice_get (flat_map f (drop i all)) n ≡ Some x
  found-here x lt is = ap (λ l. slice_get l n) one ∙ front (f a) (flat_map f (drop (i + 1) all)) n x lt is

  pub found-behind : length (f a) ≤ n → slice_get (flat_map f (drop i all)) n ≡ slice_get (flat_map f (drop (i + 1) all)) (n - length (f a))
  found-behind le = ap (λ l. slice_get l n) one ∙ behind (f a) (flat_map f (drop (i + 1) all)) n le
