-- A mark as a loop makes it.
use Rattle.std.proofs.Common.{◌≡◌, ℕ, ◌+◌, ◌≤◌, ◌<◌, List, ◌∷◌, length, drop, get_or, sym, ap, ◌∙◌, drop-cons, drop_of_length-le, add-one}
use Rattle.flow_line.specs.Marks.{mark_from, next}

module _ (mark i : ℕ) (key : List ℕ) where
  pub one_more : i < length key → (later whole : ℕ) → mark_from mark (drop i key) ≡ whole → later ≡ next mark (get_or key i 0) → mark_from later (drop (i + 1) key) ≡ whole
  unfolding mark_from
  one_more h later whole so e =
      let step : drop i key ≡ get_or key i 0 ∷ drop (i + 1) key = rw add-one (drop-cons key i 0 h) in
      ap (λ (m : ℕ). mark_from m (drop (i + 1) key)) e ∙ sym (ap (mark_from mark) step) ∙ so

  pub at_end : length key ≤ i → (whole : ℕ) → mark_from mark (drop i key) ≡ whole → mark ≡ whole
  unfolding mark_from
  at_end h whole so = sym (ap (mark_from mark) (drop_of_length-le key h)) ∙ so
