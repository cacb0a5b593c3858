-- Strings as they are printed.
use Rattle.std.proofs.Common.{◌≡◌, ℕ, ◌+◌, ◌/◌, ◌≤◌, Bool, true, false, cond, List, [], ◌∷◌, ◌++◌, refl, ap, ◌∙◌, arith}
use Rattle.std.specs.Prelude.{flat_map, nat_lt}
use lib.Utf8.{encode, next}
use Rattle.std.proofs.lemmas.Bool.Decides.{nat_tests}
use Rattle.ha_config.specs.ValueText.{escaped_byte}

-- a byte that is no ASCII stays
high_stays : (b : ℕ) → 128 ≤ b → escaped_byte b ≡ b ∷ []
high_stays b h = grind (arith, nat_tests)

joined : (b : ℕ) (bs : List ℕ) → 128 ≤ b → flat_map escaped_byte bs ≡ bs → flat_map escaped_byte (b ∷ bs) ≡ b ∷ bs
joined b bs h e = ap (λ (r : List ℕ). r ++ flat_map escaped_byte bs) (high_stays b h) ∙ ap (λ (r : List ℕ). b ∷ r) e

either : (b : Bool) (xs ys : List ℕ) → flat_map escaped_byte xs ≡ xs → flat_map escaped_byte ys ≡ ys → flat_map escaped_byte (cond b xs ys) ≡ cond b xs ys
either true xs ys p q = p
either false xs ys p q = q

-- a character that is no ASCII stays
pub high_char : (c : ℕ) → 128 ≤ c → flat_map escaped_byte (encode c) ≡ encode c
unfolding encode
high_char c h =
    either (nat_lt c 128) (c ∷ []) _ (joined c [] h refl)
    (either (nat_lt c 2048) ((192 + c / 64) ∷ next c ∷ []) _ (joined (192 + c / 64) (next c ∷ []) (omega arith) (joined (next c) [] (omega arith) refl))
    (either (nat_lt c 65536) ((224 + c / 4096) ∷ next (c / 64) ∷ next c ∷ []) ((240 + c / 262144) ∷ next (c / 4096) ∷ next (c / 64) ∷ next c ∷ [])
    (joined (224 + c / 4096) (next (c / 64) ∷ next c ∷ []) (omega arith) (joined (next (c / 64)) (next c ∷ []) (omega arith) (joined (next c) [] (omega arith) refl)))
    (joined (240 + c / 262144) (next (c / 4096) ∷ next (c / 64) ∷ next c ∷ []) (omega arith) (joined (next (c / 4096)) (next (c / 64) ∷ next c ∷ []) (omega arith) (joined (next (c / 64)) (next c ∷ []) (omega arith) (joined (next c) [] (omega arith) refl))))))
