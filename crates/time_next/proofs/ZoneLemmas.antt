-- The clock of a zone: as far ahead of UTC at two seconds, it shows seconds of the day that lie as far apart.
use Rattle.std.proofs.Common.{◌≡◌, ◌∙◌, ◌+◌, ◌*◌, ◌/◌, ◌%◌, ◌<◌, ap, sym, refl, subst, arith, ℕ, ℤ, pos, ◌+ℤ◌, Bool, true, false, ◌||◌, List, Option, Some, None, IsSome, codes, unsigned_abs}
use Rattle.std.specs.Prelude.{option_map, slice_index, if◌then◌else◌}
use Rattle.std.specs.Int.{int_rem_euclid}
use Rattle.std.specs.Str.{bytes_eq}
use Rattle.jiff_core.proofs.SignedLemmas.{signed_arith}
use Rattle.jiff_tz.specs.PosixReader.{read_whole}
use Rattle.jiff_tz.specs.PosixRule.{match_some}
use Rattle.jiff_tz.specs.PosixText.{TzText}
use Rattle.ha_clock.specs.Digits.{pair}
use Rattle.ha_clock.specs.Local.{local_seconds, second_of_day}
use Rattle.ha_clock.specs.Rule.{rule_offset}
use Rattle.ha_clock.specs.Zone.{ZoneRule, fixed, is_offset, offset_in, offset_of, offset_seconds, posix, zone_of, zone_offset}
use Rattle.time_next.specs.Next.{is_steady}

-- ---- what it shows

on-clock : (offset : ℤ) (n k : ℕ) → unsigned_abs (int_rem_euclid (pos (n + k) +ℤ offset) (pos 86_400)) ≡ (unsigned_abs (int_rem_euclid (pos n +ℤ offset) (pos 86_400)) + k) % 86_400
on-clock offset n k = omega (arith, signed_arith)

-- LAW: so many seconds behind another the clock shows a second of the day that lies so far ahead, where it is as far ahead of UTC
pub second-ahead : (zone : List ℕ) (first k : ℕ) → zone_offset zone ((first + k) * 1000) ≡ zone_offset zone (first * 1000)
    → second_of_day zone ((first + k) * 1000) ≡ (second_of_day zone (first * 1000) + k) % 86_400
unfolding local_seconds
second-ahead zone first k e =
    let there : (first + k) * 1000 / 1000 ≡ first + k = omega arith in
    let here : first * 1000 / 1000 ≡ first = omega arith in
    (λ i. unsigned_abs (int_rem_euclid (pos (there i) +ℤ e i) (pos 86_400)))
    ∙ on-clock (zone_offset zone (first * 1000)) first k
    ∙ (λ i. (unsigned_abs (int_rem_euclid (pos (sym here i) +ℤ zone_offset zone (first * 1000)) (pos 86_400)) + k) % 86_400)

of-day : (z : ℤ) → unsigned_abs (int_rem_euclid z (pos 86_400)) < 86_400
of-day z = omega (arith, signed_arith)

-- LAW: what it shows is a second of a day
pub second-of-day : (zone : List ℕ) (at : ℕ) → second_of_day zone at < 86_400
second-of-day zone at = of-day (local_seconds zone at)

-- ---- the zone of a text

past-utc : (zone : List ℕ) (b : Bool) → bytes_eq zone (codes "UTC") ≡ b → zone_of zone ≡ (if b then Some (fixed (pos 0)) else match_some (offset_of zone) (option_map posix (read_whole zone)) (λ s. Some (fixed s)))
unfolding zone_of
past-utc zone b e = (λ i. if e i then Some (fixed (pos 0)) else match_some (offset_of zone) (option_map posix (read_whole zone)) (λ s. Some (fixed s)))

as-offset : (zone : List ℕ) (b : Bool) → is_offset zone ≡ b → offset_of zone ≡ (if b then Some (offset_seconds (slice_index zone 0) (pair zone 1) (pair zone 4)) else None)
unfolding offset_of
as-offset zone b e = (λ i. if e i then Some (offset_seconds (slice_index zone 0) (pair zone 1) (pair zone 4)) else None)

steady-zone : (zone : List ℕ) → is_steady zone ≡ true → (offset : ℤ) × (zone_of zone ≡ Some (fixed offset))
steady-zone zone h = by (bytes_eq zone (codes "UTC")) refl h
  where
    by : (b : Bool) → bytes_eq zone (codes "UTC") ≡ b → (b || is_offset zone) ≡ true → (offset : ℤ) × (zone_of zone ≡ Some (fixed offset))
    by true e h = (pos 0, past-utc zone true e)
    by false e h = (
      offset_seconds (slice_index zone 0) (pair zone 1) (pair zone 4),
      past-utc zone false e ∙ ap (λ (o : Option ℤ). match_some o (option_map posix (read_whole zone)) (λ s. Some (fixed s))) (as-offset zone true h),
    )

offset-is : (zone : List ℕ) (offset : ℤ) (at : ℕ) → zone_of zone ≡ Some (fixed offset) → zone_offset zone at ≡ offset
unfolding zone_offset
offset-is zone offset at e = ap (λ (z : Option ZoneRule). match_some z (pos 0) (offset_in (pos (at * 1_000_000)))) e

-- LAW: UTC and the zones of offsets are as far ahead at all times
pub steady-same : (zone : List ℕ) → is_steady zone ≡ true → (a b : ℕ) → zone_offset zone a ≡ zone_offset zone b
steady-same zone h a b = let z = steady-zone zone h in offset-is zone z.0 a z.1 ∙ sym (offset-is zone z.0 b z.1)

either-not : (a b : Bool) → (a || b) ≡ false → (a ≡ false) × (b ≡ false)
either-not false b h = (refl, h)
either-not true b h = absurd (let bad : ◌≡◌ {A = Bool} true false = h in cc)

-- any other is that of a rule text
rule-zone : (zone : List ℕ) → is_steady zone ≡ false → zone_of zone ≡ option_map posix (read_whole zone)
rule-zone zone h =
    let neither = either-not (bytes_eq zone (codes "UTC")) (is_offset zone) h in
    past-utc zone false neither.0 ∙ ap (λ (o : Option ℤ). match_some o (option_map posix (read_whole zone)) (λ s. Some (fixed s))) (as-offset zone false neither.1)

some-read : (o : Option TzText) → IsSome (option_map posix o) → IsSome o
some-read None h = h
some-read (Some t) h = refl

-- LAW: and that text is read
pub rule-read : (zone : List ℕ) → is_steady zone ≡ false → IsSome (zone_of zone) → IsSome (read_whole zone)
rule-read zone h some = some-read (read_whole zone) (subst (λ (z : Option ZoneRule). IsSome z) (rule-zone zone h) some)

of-rule : (zone : List ℕ) (rule : TzText) (at : ℕ) → zone_of zone ≡ Some (posix rule) → zone_offset zone at ≡ rule_offset rule (pos (at * 1_000_000))
unfolding zone_offset
of-rule zone rule at e = ap (λ (z : Option ZoneRule). match_some z (pos 0) (offset_in (pos (at * 1_000_000)))) e

-- LAW: where its rule has the same offset at two seconds, so has the zone
pub rule-same : (zone : List ℕ) (rule : TzText) (first k : ℕ) → is_steady zone ≡ false → read_whole zone ≡ Some rule
    → rule_offset rule (pos ((first + k) * 1_000_000_000)) ≡ rule_offset rule (pos (first * 1_000_000_000)) → zone_offset zone ((first + k) * 1000) ≡ zone_offset zone (first * 1000)
rule-same zone rule first k h read e =
    let zone-is : zone_of zone ≡ Some (posix rule) = rule-zone zone h ∙ ap (option_map posix) read in
    let there : (first + k) * 1000 * 1_000_000 ≡ (first + k) * 1_000_000_000 = omega arith in
    let here : first * 1_000_000_000 ≡ first * 1000 * 1_000_000 = omega arith in
    of-rule zone rule ((first + k) * 1000) zone-is
    ∙ ap (λ (n : ℕ). rule_offset rule (pos n)) there
    ∙ e
    ∙ ap (λ (n : ℕ). rule_offset rule (pos n)) here
    ∙ sym (of-rule zone rule (first * 1000) zone-is)
