-- So many times a byte.
use Rattle.std.proofs.Common.{◌≡◌, ℕ, zero, suc, ◌+◌, List, [], ◌∷◌, ◌++◌, refl, ap, ◌∙◌, append_assoc, arith}
use Rattle.yaml_scan.specs.Words.{times}

pub times_more : (n b : ℕ) → times n b ++ b ∷ [] ≡ times (n + 1) b
unfolding times
times_more zero b = refl
times_more (suc n) b = let e : suc (n + 1) ≡ suc n + 1 = omega arith in ap (λ (x : List ℕ). b ∷ x) (times_more n b) ∙ ap (λ (k : ℕ). times k b) e

pub pushed : (new text now : List ℕ) (n b : ℕ) → now ≡ text ++ times n b → new ≡ now ++ b ∷ [] → new ≡ text ++ times (n + 1) b
pushed new text now n b e p = p ∙ ap (λ (x : List ℕ). x ++ b ∷ []) e ∙ append_assoc text (times n b) (b ∷ []) ∙ ap (λ (x : List ℕ). text ++ x) (times_more n b)
