-- Lines without a CR at their end.
use Rattle.std.proofs.Common.{◌≡◌, ℕ, Bool, true, false, ◌⊎◌, List, [], ◌∷◌, ◌++◌, length, refl, sym, ap, ◌∙◌, inl, inr}
use Rattle.std.specs.Prelude.{◌==◌}
use Rattle.std.proofs.lemmas.Bool.{eqb-true}
use Rattle.std.proofs.lemmas.List.{nil_from_length}
use Rattle.ha_value.specs.Lists.{without_cr}

chosen_is : (b : Bool) → (b ≡ true) ⊎ (b ≡ false)
chosen_is true = inl refl
chosen_is false = inr refl

pub cr_dropped : (line : List ℕ) → without_cr (line ++ 13 ∷ []) ≡ line
unfolding without_cr
cr_dropped [] = refl
cr_dropped (b ∷ []) = refl
cr_dropped (b ∷ c ∷ line) = ap (λ (l : List ℕ). b ∷ l) (cr_dropped (c ∷ line))

pub no_cr : (line : List ℕ) (b : ℕ) → (b == 13) ≡ false → without_cr (line ++ b ∷ []) ≡ line ++ b ∷ []
unfolding without_cr
no_cr [] b h = rw h refl
no_cr (c ∷ []) b h = rw h refl
no_cr (c ∷ d ∷ line) b h = ap (λ (l : List ℕ). c ∷ l) (no_cr (d ∷ line) b h)

no_line_cr : without_cr [] ≡ []
unfolding without_cr
no_line_cr = refl

pub dropped : (line front : List ℕ) (b : ℕ) → line ≡ front ++ b ∷ [] → b ≡ 13 → front ≡ without_cr line
dropped line front b e h = sym (ap without_cr (e ∙ ap (λ (x : ℕ). front ++ x ∷ []) h) ∙ cr_dropped front)

pub stays : (line front : List ℕ) (b : ℕ) → line ≡ front ++ b ∷ [] → (b ≡ 13 → ⊥) → line ≡ without_cr line
stays line front b e h = sym (ap without_cr e ∙ no_cr front b (elim (chosen_is (b == 13)) [ inl q ↦ absurd (h (eqb-true b 13 q)) | inr q ↦ q ]) ∙ sym e)

pub nothing_there : (line : List ℕ) → length line ≡ 0 → line ≡ without_cr line
nothing_there line h = let e : line ≡ [] = nil_from_length line h in e ∙ sym (ap without_cr e ∙ no_line_cr)
