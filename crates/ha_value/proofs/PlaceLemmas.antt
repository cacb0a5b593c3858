-- Items that are put behind the last one, and then overwritten where they stand.
use Rattle.std.proofs.Common.{ℕ, List, [], ◌∷◌, ◌++◌, ◌≡◌, ◌<◌, ◌+◌, ◌∙◌, length, take, slice_set, slice_index_or, ap, sym, arith}
use Rattle.std.proofs.Math.Seq.{set-append_seam}
use Rattle.std.proofs.lemmas.List.{take_more, length-take-le}

pub last_written : {A : Type 0} (xs ys : List A) (x y : A) (n : ℕ) → ys ≡ xs ++ x ∷ [] → n ≡ length xs → slice_set ys n y ≡ xs ++ y ∷ []
last_written xs ys x y n more at = ap (λ l. slice_set l n y) more ∙ (ap (λ k. slice_set (xs ++ x ∷ []) k y) at ∙ set-append_seam xs x [] y)

-- the next item of a list behind a copy of those before it
pub next_written : {A : Type 0} (items all more : List A) (i : ℕ) (x y d : A)
    → all ≡ take i items → i < length items → more ≡ all ++ x ∷ [] → y ≡ slice_index_or items i d → slice_set more i y ≡ take (i + 1) items
next_written items all more i x y d front within added is =
    last_written all more x y i added (sym (ap length front ∙ length-take-le i items (omega (arith, within))))
    ∙ (ap (λ w. all ++ w ∷ []) is ∙ (ap (λ l. l ++ slice_index_or items i d ∷ []) front ∙ sym (take_more items i d within)))
