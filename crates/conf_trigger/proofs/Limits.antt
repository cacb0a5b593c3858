-- A number below a limit may be counted no further than the limit.
use Rattle.std.proofs.Common.{◌≡◌, ◌∙◌, ◌≤◌, ap, refl, sym, arith, ℕ, min, nat_le, false, List, Some, None, Option, if◌then◌else◌, inl, inr}
use Rattle.std.specs.Prelude.{option_map}
use Rattle.std.proofs.lemmas.Bool.{cases_lt}
use Rattle.std.proofs.lemmas.Bool.Decides.{nat_tests}
use Rattle.ha_clock.specs.SpanText.{number_of}
use Rattle.conf_field.specs.Kinds.{counted}
use Rattle.conf_trigger.specs.Triggers.{below_limit}

not_below : (n : ℕ) → 4_294_967_296 ≤ n → nat_le n 4_294_967_295 ≡ false
not_below n h = grind (arith, nat_tests, h)

counted_some : (n : ℕ) → below_limit (Some (min 4_294_967_296 n)) ≡ below_limit (Some n)
counted_some n = elim (cases_lt n 4_294_967_296) [
  | inl lt ↦ ap (λ k. below_limit (Some k)) (let e : min 4_294_967_296 n ≡ n = omega arith in e)
  | inr le ↦
      ap (λ k. below_limit (Some k)) (let e : min 4_294_967_296 n ≡ 4_294_967_296 = omega arith in e)
      ∙ ap (λ b. if b then Some n else None) (sym (not_below n le))
]

pub below_limit_counted : (text : List ℕ) → below_limit (counted 4_294_967_296 text) ≡ below_limit (number_of text)
below_limit_counted text = by (number_of text)
  where
    by : (o : Option ℕ) → below_limit (option_map (min 4_294_967_296) o) ≡ below_limit o
    by None = refl
    by (Some n) = counted_some n
