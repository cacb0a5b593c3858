-- Lemmas on lists and options.
use Rattle.std.proofs.Common.{◌≡◌, ℕ, ◌+◌, ◌<◌, List, [], ◌∷◌, ◌++◌, length, Bool, false, refl, ap, subst, arith, zero, suc, ◌-◌, true, Option}
use Rattle.std.specs.Prelude.{Some, None, unwrap_or, slice_get}

pub append-nil : {X : Type 0} (xs : List X) → xs ++ [] ≡ xs
append-nil [] = refl
append-nil (x ∷ xs) = ap (λ l. x ∷ l) (append-nil xs)

abbrev IsNothing : {X : Type 0} → Option X → Type 0
IsNothing None = Unit {0}
IsNothing (Some x) = ⊥

pub none-some : {X : Type 0} (x : X) → None ≡ Some x → ⊥
none-some x e = subst IsNothing e tt

pub some-same : {X : Type 0} (a b : X) → Some a ≡ Some b → a ≡ b
some-same a b e = ap (λ o. unwrap_or o a) e

abbrev IsYes : Bool → Type 0
IsYes true = Unit {0}
IsYes false = ⊥

pub true-false : true ≡ false → ⊥
true-false e = subst IsYes e tt

pub get-more : {X : Type 0} (xs : List X) (x : X) (n : ℕ) → n < length xs → slice_get (xs ++ (x ∷ [])) n ≡ slice_get xs n
get-more [] x n lt = absurd (omega (arith, lt))
get-more (y ∷ ys) x zero lt = refl
get-more (y ∷ ys) x (suc n) lt = get-more ys x n (omega (arith, lt))

pub get-last : {X : Type 0} (xs : List X) (x : X) → slice_get (xs ++ (x ∷ [])) (length xs) ≡ Some x
get-last [] x = refl
get-last (y ∷ ys) x = get-last ys x
