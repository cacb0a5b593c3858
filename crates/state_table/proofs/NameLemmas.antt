-- Where a text is cut at its first dot, by what std says of `split_once`.
use Rattle.std.proofs.Common.{◌≡◌, ◌∙◌, Bor, ℕ, suc, ◌<◌, List, [], ◌∷◌, ◌++◌, length, get_or, refl, ap, arith, nat_eq, false, true}
use Rattle.std.specs.Prelude.{Option, Some, None, MatchOption}
use Rattle.std.proofs.lemmas.Bool.Decides.{nat_tests}
use Rattle.std.proofs.lemmas.Str.Pattern.{IsSplitOnceResult, split_parts}
use Rattle.ha_value.specs.Lists.{after_first, before_first}
use Rattle.ha_value.proofs.CutLemmas.{after_first-absent}

is_not : (x c : ℕ) → (x ≡ c → ⊥) → nat_eq x c ≡ false
is_not x c h = grind (arith, nat_tests)

is_so : (c : ℕ) → nat_eq c c ≡ true
is_so c = grind (arith, nat_tests)

-- what is joined by the first c is cut there
before-joined : (c : ℕ) (front back : List ℕ) → ((i : ℕ) → i < length front → get_or front i 0 ≡ c → ⊥) → before_first c (front ++ (c ∷ back)) ≡ front
before-joined c [] back no_c = rw (is_so c) refl
before-joined c (x ∷ xs) back no_c =
    rw (is_not x c (no_c 0 (omega arith))) (ap (λ l. x ∷ l) (before-joined c xs back (λ i l. no_c (suc i) (omega arith))))

after-joined : (c : ℕ) (front back : List ℕ) → ((i : ℕ) → i < length front → get_or front i 0 ≡ c → ⊥) → after_first c (front ++ (c ∷ back)) ≡ Some back
after-joined c [] back no_c = rw (is_so c) refl
after-joined c (x ∷ xs) back no_c =
    rw (is_not x c (no_c 0 (omega arith))) (after-joined c xs back (λ i l. no_c (suc i) (omega arith)))

abbrev pub IsCut : List ℕ → Option (Bor (List ℕ) × Bor (List ℕ)) → Type 0
IsCut text r = MatchOption r (after_first 46 text ≡ None) (λ parts. (before_first 46 text ≡ parts.0.now) × (after_first 46 text ≡ Some parts.1.now))

cut-by : (text : List ℕ) (r : Option (Bor (List ℕ) × Bor (List ℕ)))
    → MatchOption r ((i : ℕ) → i < length text → get_or text i 0 ≡ 46 → ⊥) (λ x. (text ≡ x.0.now ++ (46 ∷ x.1.now)) × ((i : ℕ) → i < length x.0.now → get_or x.0.now i 0 ≡ 46 → ⊥))
    → IsCut text r
cut-by text None h = after_first-absent 46 text h
cut-by text (Some x) h =
    (ap (before_first 46) h.0 ∙ before-joined 46 x.0.now x.1.now h.1, ap (after_first 46) h.0 ∙ after-joined 46 x.0.now x.1.now h.1)

pub cut-is : (text : List ℕ) (r : Option (Bor (List ℕ) × Bor (List ℕ))) → IsSplitOnceResult 46 text r → IsCut text r
cut-is text r h = cut-by text r (split_parts 46 text r h (omega arith))
