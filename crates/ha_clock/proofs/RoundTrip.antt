-- What is printed of a moment is read as the same moment.
use Rattle.std.proofs.Common.{◌≡◌, ◌∙◌, ◌≤◌, ◌<◌, ◌+◌, ◌-◌, ◌*◌, ◌/◌, ◌%◌, ap, refl, sym, arith, ℕ, pos, Bool, true, ◌&&◌, nat_le, length, Some, None, unsigned_abs, if◌then◌else◌}
use Rattle.std.specs.Char.{is_ascii_digit}
use Rattle.std.proofs.lemmas.Bool.{le-leb}
use Rattle.std.proofs.lemmas.Bool.Decides.{nat_tests}
use Rattle.jiff_core.specs.Calendar.{days_from_civil, days_in_month}
use Rattle.jiff_core.proofs.CalendarLemmas.{days_in_month_bounds}
use Rattle.ha_clock.specs.Digits.{are_digits, two_digits}
use Rattle.ha_clock.specs.Local.{last_moment}
use Rattle.ha_clock.specs.MomentText.{day_of, fraction_of, is_civil_text, moment_of, second_of}
use Rattle.ha_clock.specs.Print.{civil_text, day_on, digit, moment_text, months_on, year_on}
use Rattle.ha_clock.proofs.DateOfDay.{IsDateOf, date_of_day}
use Rattle.ha_clock.proofs.DayLemmas.{joined_is}

both_true : (a b : Bool) → a ≡ true → b ≡ true → (a && b) ≡ true
both_true a b h k = rw (h, k) refl

digit_is : (n : ℕ) → is_ascii_digit (digit n) ≡ true
digit_is n = grind (arith, nat_tests)

digits_are : (a b : ℕ) → are_digits (digit a) (digit b) ≡ true
digits_are a b = both_true (is_ascii_digit (digit a)) (is_ascii_digit (digit b)) (digit_is a) (digit_is b)

all_true : (a b c d e f g : Bool) → a ≡ true → b ≡ true → c ≡ true → d ≡ true → e ≡ true → f ≡ true → g ≡ true
    → (a && (b && (c && (d && (e && (f && g)))))) ≡ true
all_true a b c d e f g ha hb hc hd he hf hg = rw (ha, hb, hc, hd, he, hf, hg) refl

civil_is : (y m d t : ℕ) → is_civil_text (civil_text y m d t) ≡ true
civil_is y m d t =
    all_true _ _ _ _ _ _ _ (digits_are (y / 1000) (y / 100)) (digits_are (y / 10) y) (digits_are (m / 10) m) (digits_are (d / 10) d)
    (digits_are (t / 36_000_000) (t / 3_600_000)) (digits_are (t / 60_000 % 60 / 10) (t / 60_000 % 60)) (digits_are (t / 1000 % 60 / 10) (t / 1000 % 60))

-- two digits of a number below a hundred
two_is : (n : ℕ) → n ≤ 99 → two_digits (digit (n / 10)) (digit n) ≡ n
two_is n h = omega arith

year_digits : (y : ℕ) → y ≤ 9999 → two_digits (digit (y / 1000)) (digit (y / 100)) * 100 + two_digits (digit (y / 10)) (digit y) ≡ y
year_digits y h = omega arith

hour_digits : (t : ℕ) → t < 86_400_000 → two_digits (digit (t / 36_000_000)) (digit (t / 3_600_000)) ≡ t / 3_600_000
hour_digits t h = omega arith

fraction_digits : (t : ℕ) → two_digits (digit (t / 100)) (digit (t / 10)) * 10 + (digit t - 48) ≡ t % 1000
fraction_digits t = omega arith

fraction_is : (y m d t : ℕ) → fraction_of (civil_text y m d t) ≡ Some (t % 1000)
fraction_is y m d t =
    ap (λ b. if b then Some (two_digits (digit (t / 100)) (digit (t / 10)) * 10 + (digit t - 48)) else None)
    (both_true (are_digits (digit (t / 100)) (digit (t / 10))) (is_ascii_digit (digit t)) (digits_are (t / 100) (t / 10)) (digit_is t))
    ∙ ap (λ (n : ℕ). Some n) (fraction_digits t)

second_is : (h m s : ℕ) → h ≤ 23 → m ≤ 59 → s ≤ 59 → second_of h m s ≡ Some (h * 3600 + m * 60 + s)
second_is h m s hh hm hs =
    ap (λ b. if b then Some (h * 3600 + m * 60 + s) else None)
    (both_true (nat_le h 23) (nat_le m 59 && nat_le s 59) (le-leb h 23 hh) (both_true (nat_le m 59) (nat_le s 59) (le-leb m 59 hm) (le-leb s 59 hs)))

all_six : (a b c d e f : Bool) → a ≡ true → b ≡ true → c ≡ true → d ≡ true → e ≡ true → f ≡ true → (a && (b && (c && (d && (e && f))))) ≡ true
all_six a b c d e f ha hb hc hd he hf = rw (ha, hb, hc, hd, he, hf) refl

day_of_date : (day y m d : ℕ) → IsDateOf day y m d → day_of y m d ≡ Some day
day_of_date day y m d p =
    ap (λ b. if b then Some (unsigned_abs (days_from_civil (pos y) m d)) else None)
    (all_six (nat_le 1970 y) (nat_le y 2999) (nat_le 1 m) (nat_le m 12) (nat_le 1 d) (nat_le d (days_in_month (pos y) m))
    (le-leb 1970 y p.first) (le-leb y 2999 p.last) (le-leb 1 m p.month_first) (le-leb m 12 p.month_last) (le-leb 1 d p.day_first) (le-leb d (days_in_month (pos y) m) p.day_last))
    ∙ ap (λ z. Some (unsigned_abs z)) p.number

joined_back : (at : ℕ) → (at / 86_400_000 * 86_400 + (at % 86_400_000 / 3_600_000 * 3600 + at % 86_400_000 / 60_000 % 60 * 60 + at % 86_400_000 / 1000 % 60)) * 1000 + at % 86_400_000 % 1000 ≡ at
joined_back at = omega arith

day_read : (day y m d : ℕ) → IsDateOf day y m d
    → day_of (two_digits (digit (y / 1000)) (digit (y / 100)) * 100 + two_digits (digit (y / 10)) (digit y)) (two_digits (digit (m / 10)) (digit m)) (two_digits (digit (d / 10)) (digit d)) ≡ Some day
day_read day y m d p =
    let last = p.last in
    let month_last = p.month_last in
    let day_last = p.day_last in
    let most = days_in_month_bounds (pos y) m in
    ap (λ k. day_of k (two_digits (digit (m / 10)) (digit m)) (two_digits (digit (d / 10)) (digit d))) (year_digits y (omega (arith, last)))
    ∙ ap (λ k. day_of y k (two_digits (digit (d / 10)) (digit d))) (two_is m (omega (arith, month_last)))
    ∙ ap (day_of y m) (two_is d (omega (arith, day_last, most.0)))
    ∙ day_of_date day y m d p

second_read : (t : ℕ) → t < 86_400_000
    → second_of (two_digits (digit (t / 36_000_000)) (digit (t / 3_600_000))) (two_digits (digit (t / 60_000 % 60 / 10)) (digit (t / 60_000 % 60))) (two_digits (digit (t / 1000 % 60 / 10)) (digit (t / 1000 % 60)))
    ≡ Some (t / 3_600_000 * 3600 + t / 60_000 % 60 * 60 + t / 1000 % 60)
second_read t h =
    ap (λ k. second_of k (two_digits (digit (t / 60_000 % 60 / 10)) (digit (t / 60_000 % 60))) (two_digits (digit (t / 1000 % 60 / 10)) (digit (t / 1000 % 60)))) (hour_digits t h)
    ∙ ap (λ k. second_of (t / 3_600_000) k (two_digits (digit (t / 1000 % 60 / 10)) (digit (t / 1000 % 60)))) (two_is (t / 60_000 % 60) (omega arith))
    ∙ ap (second_of (t / 3_600_000) (t / 60_000 % 60)) (two_is (t / 1000 % 60) (omega arith))
    ∙ second_is (t / 3_600_000) (t / 60_000 % 60) (t / 1000 % 60) (omega arith) (omega arith) (omega arith)

text_read : (day y m d t : ℕ) → IsDateOf day y m d → t < 86_400_000
    → moment_of (civil_text y m d t) ≡ Some ((day * 86_400 + (t / 3_600_000 * 3600 + t / 60_000 % 60 * 60 + t / 1000 % 60)) * 1000 + t % 1000)
text_read day y m d t p h =
    let long : 20 ≤ length (civil_text y m d t) = omega arith in
    sym (joined_is (civil_text y m d t) _ _ _ _ _ _ _ (Some day) (Some (t / 3_600_000 * 3600 + t / 60_000 % 60 * 60 + t / 1000 % 60)) (Some (t % 1000))
    long (civil_is y m d t) refl refl refl refl refl refl refl
    (sym (day_read day y m d p)) (sym (second_read t h)) (sym (fraction_is y m d t)))

pub moment_read : (at : ℕ) → at ≤ last_moment → moment_of (moment_text at) ≡ Some at
unfolding moment_text
moment_read at h =
    let date = date_of_day (at / 86_400_000) (omega arith) in
    text_read (at / 86_400_000) (unsigned_abs (year_on (at / 86_400_000))) (months_on (at / 86_400_000) + 1) (day_on (at / 86_400_000)) (at % 86_400_000) date (omega arith)
    ∙ ap (λ (n : ℕ). Some n) (joined_back at)
