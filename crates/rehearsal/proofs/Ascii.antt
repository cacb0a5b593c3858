-- The text of a moment is ASCII.
use Rattle.std.proofs.Common.{ℕ, zero, suc, ◌<◌, ◌/◌, ◌%◌, ◌+◌, List, [], ◌∷◌, arith}
use Rattle.std.specs.Prelude.{unsigned_abs}
use Rattle.std.specs.Str.{IsAscii, IsUtf8}
use Rattle.std.proofs.lemmas.Str.{IsUtf8-from_ascii}
use Rattle.ha_clock.specs.Print.{civil_text, day_on, digit, moment_text, months_on, year_on}

data Low : List ℕ → Type 0 where
  end : Low []
  sign : {b : ℕ} {bs : List ℕ} → b < 128 → Low bs → Low (b ∷ bs)

low_ascii : (bs : List ℕ) → Low bs → IsAscii bs
low_ascii [] h i = omega arith
low_ascii (b ∷ bs) (sign l h) zero = l
low_ascii (b ∷ bs) (sign l h) (suc i) = low_ascii bs h i

one : (n : ℕ) {bs : List ℕ} → Low bs → Low (digit n ∷ bs)
one n h = sign (omega arith) h

two : (n m : ℕ) {bs : List ℕ} → Low bs → Low (digit n ∷ digit m ∷ bs)
two n m h = one n (one m h)

civil_low : (y m d t : ℕ) → Low (civil_text y m d t)
civil_low y m d t =
    two (y / 1000) (y / 100) (two (y / 10) y (sign (omega arith) (two (m / 10) m (sign (omega arith) (two (d / 10) d (sign (omega arith)
    (two (t / 36_000_000) (t / 3_600_000) (sign (omega arith) (two (t / 60_000 % 60 / 10) (t / 60_000 % 60) (sign (omega arith)
    (two (t / 1000 % 60 / 10) (t / 1000 % 60) (sign (omega arith) (two (t / 100) (t / 10) (one t (sign (omega arith) end)))))))))))))))

pub moment_utf8 : (at : ℕ) → IsUtf8 (moment_text at)
unfolding moment_text
moment_utf8 at =
    let day = at / 86_400_000 in
    IsUtf8-from_ascii (moment_text at) (low_ascii (moment_text at) (civil_low (unsigned_abs (year_on day)) (months_on day + 1) (day_on day) (at % 86_400_000)))
