-- What may stand behind what was read, in place of what stood there: the same byte or a blank, and behind a number no digits of its own.
use Rattle.std.proofs.Common.{◌≡◌, ℕ, Bool, true, false, ◌⊎◌, inl, inr, List, [], ◌∷◌, ◌++◌, Option, Some, refl, ap, ◌∙◌}
use Rattle.std.specs.Prelude.{◌==◌, ◌&&◌}
use Rattle.reading.specs.Answer.{front}
use Rattle.tpl_parse.specs.Literal.{begins_places, is_digit}

pub record Like (rest o : List ℕ) : Type 0 where
  pub first : (front o ≡ front rest) ⊎ (front o ≡ Some 32)
  pub places : begins_places rest ≡ false → begins_places o ≡ false

pub like_blank : (rest q : List ℕ) → Like rest (32 ∷ q)
like_blank rest q = record { first = inr refl; places = λ h. refl }

-- a byte that is no dot
pub like_from : (b : ℕ) (z o : List ℕ) → (b == 46) ≡ false → Like (b ∷ z) (b ∷ o)
like_from b z o h = record { first = inl refl; places = λ k. rw h refl }

none_behind : (x : Bool) → (x && false) ≡ false
none_behind true = refl
none_behind false = refl

digit_like : (b : ℕ) (rest o : List ℕ) → (front o ≡ front rest) ⊎ (front o ≡ Some 32) → begins_places (b ∷ rest) ≡ false → begins_places (b ∷ o) ≡ false
digit_like b rest o (inl e) h = ap (λ (x : Option ℕ). (b == 46) && is_digit x) e ∙ h
digit_like b rest o (inr e) h = ap (λ (x : Option ℕ). (b == 46) && is_digit x) e ∙ none_behind (b == 46)

pub like_behind : (w : List ℕ) {rest o : List ℕ} → Like rest o → Like (w ++ rest) (w ++ o)
like_behind [] l = l
like_behind (b ∷ []) {rest} {o} l = record { first = inl refl; places = digit_like b rest o l.first }
like_behind (b ∷ c ∷ w) l = record { first = inl refl; places = λ h. h }
