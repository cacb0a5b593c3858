-- The first place at which a byte passes a test is that of the definition.
use Rattle.std.proofs.Common.{◌≡◌, ℕ, Bool, true, false, List, length, get_or, Option, Some, None, refl, arith, le_refl}
use Rattle.std.specs.List.{position}
use Rattle.std.proofs.lemmas.List.Sums.{position_or_len_is}
use Rattle.std.proofs.lemmas.Bool.Decides.{nat_tests}
use Rattle.memchr.specs.Find.{IsFirstByte}

not_true : (b : Bool) → ¬ (b ≡ true) → b ≡ false
not_true true h = absurd (h refl)
not_true false h = refl

pub first_place : (test : ℕ → Bool) (hay : List ℕ) (r : Option ℕ) → IsFirstByte test hay r → r ≡ position test hay
first_place test hay None nowhere =
    let long = position_or_len_is test hay (length hay) 0 (le_refl (length hay)) (λ k lt. not_true (test (get_or hay k 0)) (nowhere k (omega arith) lt)) (λ lt. absurd (omega (arith, lt))) in
    grind (arith, nat_tests, long)
first_place test hay (Some k) found =
    let at = position_or_len_is test hay k 0 (omega (arith, found.0.high)) (λ i lt. not_true (test (get_or hay i 0)) (found.0.before i (omega arith) lt)) (λ lt. found.1) in
    grind (arith, nat_tests, at, found.0.high)
