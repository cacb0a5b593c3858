-- The clock of a rule between two instants of a day at UTC: where no change of the rule comes between, it is as far ahead at both.
use Rattle.std.proofs.Common.{◌≡◌, ◌∙◌, ◌+◌, ◌*◌, ◌/◌, ◌<◌, ◌≤◌, ap, sym, refl, subst, arith, ℕ, ℤ, pos, neg_ℤ, ◌<ℤ◌, ◌≤ℤ◌, int_le, int_lt, Bool, true, false, not, ◌&&◌, Option, Some, None, IfSome, inl, inr}
use Rattle.std.specs.Prelude.{if◌then◌else◌}
use Rattle.std.proofs.lemmas.Bool.Decides.{leb_tells}
use Rattle.std.proofs.lemmas.Int.{ints}
use Rattle.jiff_core.specs.declared.offset.Offset.{Offset}
use Rattle.jiff_tz.specs.PosixRule.{dst_at_by, dst_info, in_window, match_some, next_at, next_by, next_year, offset_at, ordered, std_info, transition_of, utc_window}
use Rattle.jiff_tz.specs.PosixText.{tz_view}
use Rattle.jiff_tz.specs.Year.{year_of_day, year_of_nanos}
use Rattle.jiff_tz.specs.declared.info.OffsetInfo.{OffsetInfo}
use Rattle.jiff_tz.specs.declared.posix.Dst.{Dst}
use Rattle.jiff_tz.specs.declared.posix.TimeZone.{TimeZone as Rule}
use Rattle.ha_clock.specs.Local.{last_moment}
use Rattle.ha_clock.specs.Rule.{rule_offset}
use Rattle.ha_clock.proofs.ZoneLemmas.{rule_offset_is}

-- the instant comes before the change, if there is one
abbrev pub IsBefore : {I : Type 0} → ℤ → Option (ℤ × I) → Type 0
IsBefore m change = IfSome change (λ x. m <ℤ x.0)

-- ---- tests of numbers

is-below : (a b : ℤ) → a <ℤ b → true ≡ int_lt a b
is-below a b h = search (arith, ints, h)

not-past : (a b : ℤ) → a <ℤ b → false ≡ int_le b a
not-past a b h = search (arith, ints, h)

is-past : (a b : ℤ) → b ≤ℤ a → true ≡ int_le b a
is-past a b h = search (arith, ints, h)

not-below : (a b : ℤ) → b ≤ℤ a → false ≡ int_lt a b
not-below a b h = search (arith, ints, h)

below : (a b : ℤ) → int_lt a b ≡ true → a <ℤ b
below a b e = omega (arith, ints, e)

past : (a b : ℤ) → int_lt a b ≡ false → b ≤ℤ a
past a b e = omega (arith, ints, e)

within : (a b : ℤ) → int_le a b ≡ true → a ≤ℤ b
within a b e = omega (arith, ints, e)

beyond : (a b : ℤ) → int_le a b ≡ false → b <ℤ a
beyond a b e = omega (arith, ints, e)

-- ---- a window of daylight saving time

-- both instants lie on the same side of an end of the window
same-side : (k n m : ℤ) → n ≤ℤ m → (n <ℤ k → m <ℤ k) → (int_le k n ≡ int_le k m) × (int_lt n k ≡ int_lt m k)
same-side k n m order kept = by (int_lt n k) refl
  where
    by : (b : Bool) → int_lt n k ≡ b → (int_le k n ≡ int_le k m) × (int_lt n k ≡ int_lt m k)
    by true e =
        let first = below n k e in
        let last = kept first in
        (sym (not-past n k first) ∙ not-past m k last, sym (is-below n k first) ∙ is-below m k last)
    by false e =
        let first = past n k e in
        let last : k ≤ℤ m = omega (arith, ints, first, order) in
        (sym (is-past n k first) ∙ is-past m k last, sym (not-below n k first) ∙ not-below m k last)

window-same : (w : ℤ × ℤ) (n m : ℤ) → n ≤ℤ m → (n <ℤ w.0 → m <ℤ w.0) → (n <ℤ w.1 → m <ℤ w.1) → in_window w n ≡ in_window w m
window-same w n m order start end =
    let a = same-side w.0 n m order start in
    let b = same-side w.1 n m order end in
    (λ i. if int_le w.0 w.1 then a.0 i && b.1 i else not (b.0 i && a.1 i))

-- of two ends the one that lies behind an instant lies behind a later one, where that comes before the next change
sides : {I : Type 0} (lo hi n m : ℤ) (change : ℤ → Option (ℤ × I)) (later : Option (ℤ × I)) → ((k : ℤ) → n <ℤ k → IsBefore m (change k) → m <ℤ k) → lo ≤ℤ hi
    → IsBefore m (if int_lt n lo then change lo else (if int_lt n hi then change hi else later)) → (n <ℤ lo → m <ℤ lo) × (n <ℤ hi → m <ℤ hi)
sides lo hi n m change later kept order h = by (int_lt n lo) refl (int_lt n hi) refl h
  where
    by : (a : Bool) → int_lt n lo ≡ a → (b : Bool) → int_lt n hi ≡ b → IsBefore m (if a then change lo else (if b then change hi else later)) → (n <ℤ lo → m <ℤ lo) × (n <ℤ hi → m <ℤ hi)
    by true e b f h =
        let before : m <ℤ lo = kept lo (below n lo e) h in
        (λ _. before, λ _. omega (arith, ints, before, order))
    by false e true f h =
        let low = past n lo e in
        let before : m <ℤ hi = kept hi (below n hi f) h in
        (λ less. absurd (omega (arith, ints, low, less)), λ _. before)
    by false e false f h =
        let low = past n lo e in
        let high = past n hi f in
        (λ less. absurd (omega (arith, ints, low, less)), λ less. absurd (omega (arith, ints, high, less)))

-- an end that is no instant lies behind every moment
change-at : {I : Type 0} (k n m : ℤ) (x : I) → pos 0 ≤ℤ n → n <ℤ k → m ≤ℤ pos 253_402_207_200_999_999_999
    → IsBefore m (if int_le (neg_ℤ (pos 377_705_023_201_000_000_000)) k && int_le k (pos 253_402_207_200_999_999_999) then Some (k, x) else None) → m <ℤ k
change-at k n m x low less most h = by (int_le (neg_ℤ (pos 377_705_023_201_000_000_000)) k) refl (int_le k (pos 253_402_207_200_999_999_999)) refl h
  where
    by : (a : Bool) → int_le (neg_ℤ (pos 377_705_023_201_000_000_000)) k ≡ a → (b : Bool) → int_le k (pos 253_402_207_200_999_999_999) ≡ b
        → IsBefore m (if a && b then Some (k, x) else None) → m <ℤ k
    by true e true f h = h
    by true e false f h = let out = beyond k (pos 253_402_207_200_999_999_999) f in omega (arith, ints, out, most)
    by false e b f h = let out = beyond (neg_ℤ (pos 377_705_023_201_000_000_000)) k e in absurd (omega (arith, ints, out, low, less))

abbrev changes : Rule → Dst → ℤ × ℤ → Option (ℤ × OffsetInfo) → ℤ → ℤ × ℤ → Option (ℤ × OffsetInfo)
changes tz d w later n o = if int_lt n o.0 then transition_of tz d w o.0 else (if int_lt n o.1 then transition_of tz d w o.1 else later)

window-kept : (tz : Rule) (d : Dst) (w : ℤ × ℤ) (n m : ℤ) (later : Option (ℤ × OffsetInfo)) → pos 0 ≤ℤ n → n ≤ℤ m → m ≤ℤ pos 253_402_207_200_999_999_999
    → IsBefore m (changes tz d w later n (ordered w)) → in_window w n ≡ in_window w m
window-kept tz d w n m later low order most h = by (int_le w.0 w.1) refl h
  where
    kept : (k : ℤ) → n <ℤ k → IsBefore m (transition_of tz d w k) → m <ℤ k
    kept k less h = change-at k n m (if in_window w k then dst_info d else std_info tz) low less most h

    by : (b : Bool) → int_le w.0 w.1 ≡ b → IsBefore m (changes tz d w later n (if b then w else (w.1, w.0))) → in_window w n ≡ in_window w m
    by true e h =
        let s = sides w.0 w.1 n m (λ (k : ℤ). transition_of tz d w k) later kept (within w.0 w.1 e) h in
        window-same w n m order s.0 s.1
    by false e h =
        let out = beyond w.0 w.1 e in
        let less : w.1 ≤ℤ w.0 = omega (arith, ints, out) in
        let s = sides w.1 w.0 n m (λ (k : ℤ). transition_of tz d w k) later kept less h in
        window-same w n m order s.1 s.0

-- ---- a rule

-- in a year, up to its next change, a rule has one offset
offset-kept : (tz : Rule) (n m : ℤ) → year_of_nanos n ≡ year_of_nanos m → pos 0 ≤ℤ n → n ≤ℤ m → m ≤ℤ pos 253_402_207_200_999_999_999 → IsBefore m (next_at tz n) → offset_at tz n ≡ offset_at tz m
offset-kept tz n m year low order most h = ap (λ (d : Option Dst). match_some d tz.std_offset (λ d. d.offset)) (by tz.dst h)
  where
    by : (o : Option Dst) → IsBefore m (match_some o None (λ d. next_by tz d (year_of_nanos n) n)) → dst_at_by tz.std_offset o n ≡ dst_at_by tz.std_offset o m
    by None h = refl
    by (Some d) h =
        let same = window-kept tz d (utc_window d (year_of_nanos n) tz.std_offset) n m (next_year tz d (year_of_nanos n)) low order most h in
        (λ i. if same i then Some d else None) ∙ (λ i. if in_window (utc_window d (year i) tz.std_offset) m then Some d else None)

year-of-day : (a b : ℕ) → a / 86_400_000_000_000 ≡ b / 86_400_000_000_000 → year_of_nanos (pos a) ≡ year_of_nanos (pos b)
year-of-day a b e = ap (λ (d : ℕ). year_of_day (pos d)) e

moved : (tz : Rule) (a b : ℕ) → a ≡ b → rule_offset (tz_view tz) (pos a) ≡ rule_offset (tz_view tz) (pos b)
moved tz a b e = ap (λ (n : ℕ). rule_offset (tz_view tz) (pos n)) e

-- LAW: on a day at UTC, up to its next change, a rule has the same offset as at a second
pub offset-same : (tz : Rule) (first k : ℕ) (n : ℤ) (change : Option (ℤ × OffsetInfo)) → first * 1000 ≤ last_moment → (first + k) / 86_400 ≡ first / 86_400
    → n ≡ pos (first * 1_000_000_000) → change ≡ next_at tz n → (0 < k → IsBefore (pos ((first + k) * 1_000_000_000)) change)
    → rule_offset (tz_view tz) (pos ((first + k) * 1_000_000_000)) ≡ rule_offset (tz_view tz) (pos (first * 1_000_000_000))
offset-same tz first k n change in-time day at is before = elim (leb_tells k 0) [
  | inl few ↦ (let few = few.1 in moved tz ((first + k) * 1_000_000_000) (first * 1_000_000_000) (omega (arith, few)))
  | inr some ↦ (let some = some.1 in
      let same-day : first * 1_000_000_000 / 86_400_000_000_000 ≡ (first + k) * 1_000_000_000 / 86_400_000_000_000 = omega (arith, day) in
      let order : pos (first * 1_000_000_000) ≤ℤ pos ((first + k) * 1_000_000_000) = omega (arith, ints) in
      let most : pos ((first + k) * 1_000_000_000) ≤ℤ pos 253_402_207_200_999_999_999 = omega (arith, ints, in-time, day) in
      let low : pos 0 ≤ℤ pos (first * 1_000_000_000) = omega (arith, ints) in
      let next : IsBefore (pos ((first + k) * 1_000_000_000)) (next_at tz (pos (first * 1_000_000_000))) =
      subst (λ (o : Option (ℤ × OffsetInfo)). IsBefore (pos ((first + k) * 1_000_000_000)) o) (is ∙ ap (next_at tz) at) (before some) in
      rule_offset_is tz (pos ((first + k) * 1_000_000_000))
      ∙ ap (λ (o : Offset). o.seconds) (sym (offset-kept tz (pos (first * 1_000_000_000)) (pos ((first + k) * 1_000_000_000)) (year-of-day (first * 1_000_000_000) ((first + k) * 1_000_000_000) same-day) low order most next))
      ∙ sym (rule_offset_is tz (pos (first * 1_000_000_000))))
]
