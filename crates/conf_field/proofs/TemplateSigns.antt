-- Whether a text holds a template, byte by byte.
use Rattle.std.proofs.Common.{◌≡◌, ◌∙◌, ◌≤◌, ◌<◌, ◌+◌, ap, refl, sym, ℕ, suc, false, ◌||◌, List, [], ◌∷◌, length, drop, get_or, inl, inr, add-one}
use Rattle.std.proofs.Math.Seq.{drop-cons}
use Rattle.std.proofs.lemmas.List.{drop_all}
use Rattle.std.proofs.lemmas.Bool.{cases_lt}
use Rattle.conf_field.specs.Kinds.{holds_template, opens}

-- no sign opens at this place
pub sign_further : (text : List ℕ) (i : ℕ) → i < length text → (i + 1 < length text → opens (get_or text i 0) (get_or text (i + 1) 0) ≡ false)
    → holds_template (drop i text) ≡ holds_template (drop (i + 1) text)
unfolding holds_template
sign_further text i lt none = elim (cases_lt (i + 1) (length text)) [
  | inl more ↦
      ap holds_template (drop-cons text i 0 lt ∙ ap (λ r. get_or text i 0 ∷ r) (next more))
      ∙ ap (λ b. b || holds_template (get_or text (i + 1) 0 ∷ drop (i + 1 + 1) text)) (none more)
      ∙ ap holds_template (sym (here more))
  | inr end ↦
      ap holds_template (drop-cons text i 0 lt ∙ ap (λ r. get_or text i 0 ∷ r) (past end ∙ refl))
      ∙ ap holds_template (sym (last end))
]
  where
    here : i + 1 < length text → drop (i + 1) text ≡ get_or text (i + 1) 0 ∷ drop (i + 1 + 1) text
    here more = drop-cons text (i + 1) 0 more ∙ ap (λ k. get_or text (i + 1) 0 ∷ drop k text) (sym (add-one (i + 1)))

    next : i + 1 < length text → drop (suc i) text ≡ get_or text (i + 1) 0 ∷ drop (i + 1 + 1) text
    next more = ap (λ k. drop k text) (sym (add-one i)) ∙ here more

    last : length text ≤ i + 1 → drop (i + 1) text ≡ []
    last end = drop_all (i + 1) text end

    past : length text ≤ i + 1 → drop (suc i) text ≡ []
    past end = ap (λ k. drop k text) (sym (add-one i)) ∙ last end
