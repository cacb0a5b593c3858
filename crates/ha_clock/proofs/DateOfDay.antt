-- The year, month and day that are printed of a day number are a date of that day number.
use Rattle.std.proofs.Common.{◌≡◌, ◌∙◌, ◌≤◌, ◌<◌, ◌+◌, ◌-◌, ap, refl, sym, subst, arith, add-one, zero, suc, inl, inr, ℕ, ℤ, pos, ◌-ℤ◌, unsigned_abs}
use Rattle.std.proofs.lemmas.Bool.Decides.{leb_tells}
use Rattle.jiff_core.specs.Calendar.{day_count, days_from_civil, days_in_month, days_in_year, days_of_months, days_of_years}
use Rattle.jiff_core.proofs.CalendarLemmas.{day_count-epoch, days_from_civil-day_count, days_of_months-zero, days_of_months_all, days_of_months_more}
use Rattle.jiff_core.proofs.SignedLemmas.{signed_arith}
use Rattle.jiff_tz.specs.Year.{years_within}
use Rattle.ha_clock.specs.Print.{day_on, months_on, months_within, place_on, year_on}
use Rattle.ha_clock.proofs.DayLemmas.{end_count}

-- the years that fit in the days fit, and one more does not
years_low : (n count : ℕ) → days_of_years (years_within n count) ≤ count
unfolding years_within days_of_years
years_low zero count = omega arith
years_low (suc n) count = elim (leb_tells (days_of_years (suc n)) count) [
  | inl fits ↦ rw fits.0 fits.1
  | inr over ↦ rw over.0 (years_low n count)
]

years_high : (n count : ℕ) → count < days_of_years (suc n) → count < days_of_years (suc (years_within n count))
unfolding years_within
years_high zero count h = h
years_high (suc n) count h = elim (leb_tells (days_of_years (suc n)) count) [
  | inl fits ↦ rw fits.0 h
  | inr over ↦ rw over.0 (years_high n count over.1)
]

days_of_years-suc : (n : ℕ) → days_of_years (suc n) ≡ days_of_years n + days_in_year (pos n -ℤ pos 10000)
unfolding days_of_years
days_of_years-suc n = refl

-- by induction on the years between them
days_of_years_grow : (between first : ℕ) → days_of_years first ≤ days_of_years (between + first)
days_of_years_grow zero first =
    let same : zero + first ≡ first = omega arith in rw same (omega arith)
days_of_years_grow (suc between) first =
    let next : suc between + first ≡ suc (between + first) = omega arith in
    let fewer = days_of_years_grow between first in
    let last_year = days_of_years-suc (between + first) in
    rw next (omega arith)

days_of_years_mono : (a b : ℕ) → a ≤ b → days_of_years a ≤ days_of_years b
days_of_years_mono a b h =
    let apart : b - a + a ≡ b = omega arith in
    let grown = days_of_years_grow (b - a) a in
    let whole : days_of_years (b - a + a) ≡ days_of_years b = ap days_of_years apart in
    omega (arith, grown, whole)

year_start : (y : ℕ) → day_count (pos y) 1 1 ≡ days_of_years (y + 10000)
unfolding day_count
year_start y = rw days_of_months-zero (omega arith)

first_year : days_of_years 11970 ≡ 4_371_953
first_year = sym (year_start 1970) ∙ day_count-epoch

end_year : days_of_years 13000 ≡ 4_748_153
end_year = sym (year_start 3000) ∙ end_count

-- the years from -10000 on that lie before a day
pub record Years (day k : ℕ) : Type 0 where
  pub first : 11970 ≤ k
  pub last : k ≤ 12999
  pub low : days_of_years k ≤ day + 4_371_953
  pub high : day + 4_371_953 < days_of_years (suc k)

abbrev years_of : ℕ → ℕ
years_of day = years_within 20000 (day + 4_371_953)

years_are : (day : ℕ) → day ≤ 376_199 → Years day (years_of day)
years_are day h =
    let end = end_year in
    let start = first_year in
    let far = days_of_years_mono 13000 (suc 20000) (omega arith) in
    let low = years_low 20000 (day + 4_371_953) in
    let high = years_high 20000 (day + 4_371_953) (omega arith) in
    record {
      first = elim (leb_tells 11970 (years_of day)) [
        | inl fits ↦ fits.1
        | inr under ↦
            let more = days_of_years_mono (suc (years_of day)) 11970 (omega arith) in
            absurd (omega arith)
      ];
      last = elim (leb_tells 13000 (years_of day)) [
        | inl over ↦
            let more = days_of_years_mono 13000 (years_of day) over.1 in
            absurd (omega arith)
        | inr fits ↦ omega arith
      ];
      low = low;
      high = high;
    }

months_low : (y : ℤ) (n count : ℕ) → days_of_months y (months_within y n count) ≤ count
unfolding months_within days_of_months
months_low y zero count = omega arith
months_low y (suc n) count = elim (leb_tells (days_of_months y (suc n)) count) [
  | inl fits ↦ rw fits.0 fits.1
  | inr over ↦ rw over.0 (months_low y n count)
]

months_high : (y : ℤ) (n count : ℕ) → count < days_of_months y (suc n) → count < days_of_months y (suc (months_within y n count))
unfolding months_within
months_high y zero count h = h
months_high y (suc n) count h = elim (leb_tells (days_of_months y (suc n)) count) [
  | inl fits ↦ rw fits.0 h
  | inr over ↦ rw over.0 (months_high y n count over.1)
]

months_most : (y : ℤ) (n count : ℕ) → months_within y n count ≤ n
unfolding months_within
months_most y zero count = omega arith
months_most y (suc n) count = elim (leb_tells (days_of_months y (suc n)) count) [
  | inl fits ↦ rw fits.0 (omega arith)
  | inr over ↦ let fewer = months_most y n count in rw over.0 (omega arith)
]

-- a date of the years from 1970 to 2999 with a day number
pub record IsDateOf (day y m d : ℕ) : Type 0 where
  pub first : 1970 ≤ y
  pub last : y ≤ 2999
  pub month_first : 1 ≤ m
  pub month_last : m ≤ 12
  pub day_first : 1 ≤ d
  pub day_last : d ≤ days_in_month (pos y) m
  pub number : days_from_civil (pos y) m d ≡ pos day

count_in_year : (day k y p m : ℕ) → k ≡ y + 10000 → p + days_of_years k ≡ day + 4_371_953 → days_of_months (pos y) m ≤ p
    → day_count (pos y) (m + 1) (p - days_of_months (pos y) m + 1) ≡ day + 4_371_953
unfolding day_count
count_in_year day k y p m e split low =
    let back : m + 1 - 1 ≡ m = omega arith in
    let years : days_of_years (y + 10000) ≡ days_of_years k = ap days_of_years (sym e) in
    rw (back, years) (omega arith)

number_in_year : (day k y p m : ℕ) → k ≡ y + 10000 → p + days_of_years k ≡ day + 4_371_953 → days_of_months (pos y) m ≤ p
    → days_from_civil (pos y) (m + 1) (p - days_of_months (pos y) m + 1) ≡ pos day
number_in_year day k y p m e split low =
    let count = count_in_year day k y p m e split low in
    let is = days_from_civil-day_count (pos y) (m + 1) (p - days_of_months (pos y) m + 1) in
    omega (arith, signed_arith, count, is)

-- the place of a day in a year, from 0
abbrev place : ℕ → ℤ → ℕ
place day z = unsigned_abs (pos day -ℤ days_from_civil z 1 1)

place_splits : (day k y : ℕ) → Years day k → k ≡ y + 10000 → place day (pos y) + days_of_years k ≡ day + 4_371_953
place_splits day k y h e =
    let low = h.low in
    let years : days_of_years (y + 10000) ≡ days_of_years k = ap days_of_years (sym e) in
    let start = year_start y in
    let is = days_from_civil-day_count (pos y) 1 1 in
    let rest : pos day -ℤ days_from_civil (pos y) 1 1 ≡ pos (day + 4_371_953 - days_of_years k) =
    omega (arith, signed_arith, low, years, start, is) in
    let same : place day (pos y) ≡ day + 4_371_953 - days_of_years k = ap unsigned_abs rest in
    omega arith

year_back : (k y : ℕ) → k ≡ y + 10000 → pos k -ℤ pos 10000 ≡ pos y
year_back k y e = omega (arith, signed_arith, e)

place_within : (day k y : ℕ) → Years day k → k ≡ y + 10000 → place day (pos y) < days_of_months (pos y) 12
place_within day k y h e =
    let high = h.high in
    let split = place_splits day k y h e in
    let more : days_of_years (suc k) ≡ days_of_years k + days_in_year (pos y) =
    days_of_years-suc k ∙ ap (λ z. days_of_years k + days_in_year z) (year_back k y e) in
    let whole = days_of_months_all (pos y) in
    omega (arith, high, split, more, whole)

abbrev months : ℕ → ℤ → ℕ
months day z = months_within z 11 (place day z)

abbrev IsDateIn : ℕ → ℤ → Type 0
IsDateIn day z = IsDateOf day (unsigned_abs z) (months day z + 1) (place day z - days_of_months z (months day z) + 1)

date_in_year : (day k y : ℕ) → Years day k → k ≡ y + 10000 → IsDateIn day (pos y)
date_in_year day k y h e =
    let first = h.first in
    let last = h.last in
    let split = place_splits day k y h e in
    let low = months_low (pos y) 11 (place day (pos y)) in
    let high = months_high (pos y) 11 (place day (pos y)) (place_within day k y h e) in
    let most = months_most (pos y) 11 (place day (pos y)) in
    let back : suc (months day (pos y)) - 1 ≡ months day (pos y) = omega arith in
    let more : days_of_months (pos y) (suc (months day (pos y))) ≡ days_of_months (pos y) (months day (pos y)) + days_in_month (pos y) (suc (months day (pos y))) =
    days_of_months_more (pos y) (suc (months day (pos y))) (omega arith)
    ∙ ap (λ m. days_of_months (pos y) m + days_in_month (pos y) (suc (months day (pos y)))) back in
    let next : days_in_month (pos y) (months day (pos y) + 1) ≡ days_in_month (pos y) (suc (months day (pos y))) =
    ap (days_in_month (pos y)) (add-one (months day (pos y))) in
    record {
      first = omega (arith, first, e);
      last = omega (arith, last, e);
      month_first = omega arith;
      month_last = omega (arith, most);
      day_first = omega arith;
      day_last = omega (arith, low, high, more, next);
      number = number_in_year day k y (place day (pos y)) (months day (pos y)) e split low;
    }

pub date_of_day : (day : ℕ) → day ≤ 376_199 → IsDateOf day (unsigned_abs (year_on day)) (months_on day + 1) (day_on day)
unfolding place_on months_on day_on
date_of_day day h =
    let years = years_are day h in
    let first = years.first in
    let e : years_of day ≡ years_of day - 10000 + 10000 = omega arith in
    let same : year_on day ≡ pos (years_of day - 10000) = year_back (years_of day) (years_of day - 10000) e in
    subst (IsDateIn day) (sym same) (date_in_year day (years_of day) (years_of day - 10000) years e)
