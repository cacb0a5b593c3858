-- How values begin.
use Rattle.std.proofs.Common.{◌≡◌, ℕ, zero, suc, true, false, List, Some, refl, sym, ap, ◌∙◌, inl, inr}
use Rattle.std.specs.Prelude.{◌==◌}
use Rattle.std.proofs.lemmas.Bool.{eqb-true}
use Rattle.ha_value.specs.declared.value.Value.TheVariants.{Number}
use Rattle.reading.specs.Answer.{front, made}
use Rattle.reading.proofs.Basics.{chosen_is}
use Rattle.ha_value.specs.Numbers.{begins_number}
use Rattle.flow_line.specs.Reading.{number, value, start_of, numeric}

no_number : (k : ℕ) → begins_number k ≡ false → (b : ℕ) → begins_number b ≡ true → (b == k) ≡ false
no_number k g b h = elim (chosen_is (b == k)) [ inl q ↦ absurd (let w : begins_number b ≡ begins_number k = ap begins_number (eqb-true b k q) in let v : true ≡ false = sym h ∙ w ∙ g in cc) | inr q ↦ q ]

pub starts_numeric : (b : ℕ) → begins_number b ≡ true → start_of (Some b) ≡ numeric
starts_numeric b h = rw (no_number 110 refl b h, no_number 116 refl b h, no_number 102 refl b h, no_number 34 refl b h, no_number 91 refl b h, no_number 123 refl b h, h) refl

-- a value that begins as a number is one
pub value_numeric : (depth : ℕ) (t : List ℕ) (b : ℕ) → front t ≡ Some b → begins_number b ≡ true → value depth t ≡ made Number (number t)
unfolding value
value_numeric zero t b at h = rw (at, starts_numeric b h) refl
value_numeric (suc depth) t b at h = rw (at, starts_numeric b h) refl
