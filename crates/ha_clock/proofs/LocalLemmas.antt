-- Local times at UTC.
use Rattle.std.proofs.Common.{◌≡◌, ◌∙◌, ◌+◌, ◌/◌, ◌%◌, ap, refl, arith, ℕ, pos, ◌+ℤ◌, codes, unsigned_abs}
use Rattle.std.specs.Int.{int_div_euclid, int_rem_euclid}
use Rattle.jiff_core.proofs.SignedLemmas.{signed_arith}
use Rattle.ha_clock.specs.Local.{local_seconds, second_of_day, weekday_at, weekday_of_day}
use Rattle.ha_clock.specs.Zone.{zone_of, zone_offset}

utc_offset : (at : ℕ) → zone_offset (codes "UTC") at ≡ pos 0
unfolding zone_offset zone_of
utc_offset at = refl

utc_seconds : (at : ℕ) → local_seconds (codes "UTC") at ≡ pos (at / 1000)
unfolding local_seconds
utc_seconds at =
    let none : pos (at / 1000) +ℤ pos 0 ≡ pos (at / 1000) = omega (arith, signed_arith) in
    ap (λ o. pos (at / 1000) +ℤ o) (utc_offset at) ∙ none

rem_is : (n : ℕ) → unsigned_abs (int_rem_euclid (pos n) (pos 86_400)) ≡ n % 86_400
rem_is n = refl

day_is : (n : ℕ) → weekday_of_day (int_div_euclid (pos n) (pos 86_400)) ≡ (n / 86_400 + 3) % 7
day_is n = refl

pub utc_second : (at : ℕ) → second_of_day (codes "UTC") at ≡ at / 1000 % 86_400
utc_second at = ap (λ z. unsigned_abs (int_rem_euclid z (pos 86_400))) (utc_seconds at) ∙ rem_is (at / 1000)

pub utc_weekday : (at : ℕ) → weekday_at (codes "UTC") at ≡ (at / 86_400_000 + 3) % 7
utc_weekday at =
    let days : at / 1000 / 86_400 ≡ at / 86_400_000 = omega arith in
    ap (λ z. weekday_of_day (int_div_euclid z (pos 86_400))) (utc_seconds at) ∙ day_is (at / 1000) ∙ ap (λ d. (d + 3) % 7) days
