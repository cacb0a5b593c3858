-- One item is taken out of a list.
use Rattle.std.proofs.Common.{◌≡◌, ℕ, zero, suc, ◌<◌, List, [], ◌∷◌, ◌++◌, length, take, drop, refl, ap, ◌∙◌, arith}

pub cut-length : {X : Type 0} (i : ℕ) (xs : List X) → i < length xs → suc (length (take i xs ++ drop (suc i) xs)) ≡ length xs
cut-length i [] lt = absurd (omega (arith, lt))
cut-length zero (x ∷ xs) lt = refl
cut-length (suc i) (x ∷ xs) lt = ap suc (cut-length i xs (omega (arith, lt)))

taken : {X : Type 0} (xs ys : List X) → take (length xs) (xs ++ ys) ≡ xs
taken [] [] = refl
taken [] (y ∷ ys) = refl
taken (x ∷ xs) ys = ap (λ l. x ∷ l) (taken xs ys)

-- LAW: what was written to the whole of a list is the list
pub written : {X : Type 0} (len : ℕ) (new old : List X) → len ≡ length new → take len (new ++ drop (length new) old) ≡ new
written len new old e = ap (λ n. take n (new ++ drop (length new) old)) e ∙ taken new (drop (length new) old)
