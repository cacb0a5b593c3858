-- The first LF of a text.
use Rattle.std.proofs.Common.{◌≡◌, ◌<◌, ◌≤◌, ◌+◌, ℕ, zero, suc, List, ◌∷◌, ◌++◌, true, length, take, drop, get_or, refl, ap, sym, ◌∙◌, add-one, arith, le_refl, take_all}
use Rattle.std.specs.Prelude.{Option, None, Some, IfSome, not, nat_eq, ◌&&◌}
use Rattle.std.proofs.Math.Seq.{drop-cons}
use Rattle.std.proofs.lemmas.List.{take-append-drop}
use Rattle.std.proofs.lemmas.List.Folds.{list_all_more}
use Rattle.std.proofs.lemmas.Bool.Decides.{nat_tests}
use Rattle.memchr.specs.Find.{IsFirstByte, Nowhere, Passes, is_byte}
use Rattle.trace_laws.specs.Lines.{Cuts, is_one_line}

no_feed : (c : ℕ) → (c ≡ 10 → ⊥) → not (nat_eq c 10) ≡ true
no_feed c ne = grind (arith, nat_tests)

none_so_far : (xs : List ℕ) (i : ℕ) → i < length xs → is_one_line (take i xs) ≡ true → (get_or xs i 0 ≡ 10 → ⊥) → is_one_line (take (i + 1) xs) ≡ true
none_so_far xs i lt h ne = list_all_more (λ c. not (nat_eq c 10)) xs i 0 lt ∙ (λ k. h k && no_feed (get_or xs i 0) ne k)

-- no LF stands before this place, so what stands before it is one line
pub free_before : (xs : List ℕ) (n : ℕ) → n ≤ length xs → Nowhere (Passes (is_byte 10) xs) 0 n → is_one_line (take n xs) ≡ true
free_before xs zero short none = refl
free_before xs (suc n) short none =
    let before = free_before xs n (omega (arith, short)) (λ k low lt. none k low (omega (arith, lt))) in
    let next = none_so_far xs n (omega (arith, short)) before (λ e. none n (omega arith) (omega arith) (grind (arith, nat_tests, e))) in
    ap (λ m. is_one_line (take m xs)) (sym (add-one n)) ∙ next

-- what a search for an LF found
pub found_free : (xs : List ℕ) (r : Option ℕ) → IsFirstByte (is_byte 10) xs r → IfSome r (λ at. is_one_line (take at xs) ≡ true)
found_free xs None none = tt
found_free xs (Some at) found = free_before xs at (omega (arith, found.0.high)) found.0.before

pub all_free : (xs : List ℕ) (r : Option ℕ) → IsFirstByte (is_byte 10) xs r → r ≡ None → is_one_line xs ≡ true
all_free xs None none e = (λ k. is_one_line (sym (take_all (length xs) xs (le_refl (length xs))) k)) ∙ free_before xs (length xs) (le_refl (length xs)) none
all_free xs (Some at) found e = absurd cc

pub ends_here : (xs : List ℕ) (i : ℕ) → i < length xs → get_or xs i 0 ≡ 10 → drop i xs ≡ 10 ∷ drop (i + 1) xs
ends_here xs i lt e = drop-cons xs i 0 lt ∙ (λ k. e k ∷ drop (suc i) xs) ∙ ap (λ n. 10 ∷ drop n xs) (sym (add-one i))

pub cut_at : (xs line behind : List ℕ) (at : ℕ) → line ≡ take at xs → behind ≡ drop (at + 1) xs → is_one_line (take at xs) ≡ true → drop at xs ≡ 10 ∷ drop (at + 1) xs → Cuts xs line behind
cut_at xs line behind at e f one end = record {
  text_is = sym (take-append-drop at xs) ∙ (λ k. sym e k ++ (end ∙ ap (λ t. 10 ∷ t) (sym f)) k);
  one_line = ap is_one_line e ∙ one;
}
