-- Texts that are cut at blanks and breaks.
use Rattle.std.proofs.Common.{◌≡◌, ◌∙◌, ap, ℕ, ◌+◌, ◌-◌, ◌<◌, ◌≤◌, true, false, List, length, get_or, take, drop, subst, sym, arith}
use Rattle.std.proofs.lemmas.Bool.Decides.{nat_tests}
use Rattle.std.specs.List.{slice_range}
use Rattle.std.specs.Str.{IsUtf8, IsCharBoundary}
use Rattle.std.proofs.lemmas.Str.{IsCharBoundary-after_ascii}
use Rattle.ha_value.specs.Lists.{after_front, before_end}
use Rattle.ha_value.proofs.CutLemmas.{after_front-found, before_end-found}
use Rattle.ha_value.specs.Truth.{is_blank_or_break}

blank_is_ascii : (c : ℕ) → is_blank_or_break c ≡ true → c < 128
blank_is_ascii c h = grind (arith, nat_tests)

module _ (text bytes : List ℕ) (e : bytes ≡ text) (i : ℕ) (within : i ≤ length bytes) where
  -- the text may be cut behind a blank or a break
  pub cut-behind : IsUtf8 text → i < length bytes → is_blank_or_break (get_or bytes i 0) ≡ true → IsCharBoundary text (i + 1)
  cut-behind u lt h =
      IsCharBoundary-after_ascii text i u (subst (λ b. i < length b) e lt) (subst (λ b. get_or b i 0 < 128) e (blank_is_ascii (get_or bytes i 0) h))

  -- all before i are blanks and breaks, and the byte there is none
  pub front-cut : (r : List ℕ) → ((k : ℕ) → k < i → is_blank_or_break (get_or bytes k 0) ≡ true) → (i < length bytes → is_blank_or_break (get_or bytes i 0) ≡ false)
      → r ≡ drop i text → r ≡ after_front is_blank_or_break text
  front-cut r passed stops is = is ∙ ap (drop i) (sym e) ∙ sym (after_front-found is_blank_or_break bytes i within passed stops) ∙ ap (after_front is_blank_or_break) e

  -- all from i on are blanks and breaks, and the byte before is none
  pub end-cut : (r : List ℕ) → ((k : ℕ) → i ≤ k → k < length bytes → is_blank_or_break (get_or bytes k 0) ≡ true) → (0 < i → is_blank_or_break (get_or bytes (i - 1) 0) ≡ false)
      → r ≡ slice_range text 0 i → r ≡ before_end is_blank_or_break text
  end-cut r passed stops is =
      let z : i - 0 ≡ i = omega arith in
      is ∙ (λ k. take (z k) text) ∙ ap (take i) (sym e) ∙ sym (before_end-found is_blank_or_break bytes i within passed stops) ∙ ap (before_end is_blank_or_break) e
