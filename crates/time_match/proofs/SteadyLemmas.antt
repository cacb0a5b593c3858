-- A clock that is always as far ahead of UTC: its second of the day by arithmetic, and the seconds that it passes.
use Rattle.std.proofs.Common.{◌≡◌, ◌∙◌, ◌+◌, ◌-◌, ◌*◌, ◌/◌, ◌%◌, ◌≤◌, ◌↔◌, ap, sym, refl, arith, ℕ, ℤ, pos, ◌+ℤ◌, Bool, true, false, ◌||◌, List, Some, None, codes, unsigned_abs, IsTrue}
use Rattle.std.specs.Prelude.{option_map, slice_index, if◌then◌else◌}
use Rattle.std.specs.Str.{bytes_eq}
use Rattle.std.specs.Int.{int_rem_euclid}
use Rattle.jiff_core.proofs.SignedLemmas.{signed_arith}
use Rattle.jiff_tz.specs.PosixReader.{read_whole}
use Rattle.jiff_tz.specs.PosixRule.{match_some}
use Rattle.ha_clock.specs.Local.{local_seconds, second_of_day}
use Rattle.ha_clock.specs.Digits.{pair}
use Rattle.ha_clock.specs.Passed.{PassesSecond, passed_count, passes_second}
use Rattle.ha_clock.specs.Zone.{fixed, posix, is_offset, offset_in, offset_of, offset_seconds, zone_of, zone_offset}
use Rattle.ha_clock.proofs.PassedLemmas.{passes_second-PassesSecond}
use Rattle.ha_config.specs.declared.config.TriggerRule.{TriggerRule}
use Rattle.ha_sight.specs.Rules.{passed, second_fits}
use Rattle.time_match.specs.Times.{HasTimeBack, is_steady}

offset-is : (text : List ℕ) (offset : ℤ) (at : ℕ) → zone_of text ≡ Some (fixed offset) → zone_offset text at ≡ offset
unfolding zone_offset
offset-is text offset at e = ap (λ z. match_some z (pos 0) (offset_in (pos (at * 1_000_000)))) e

second-is : (text : List ℕ) (offset : ℤ) (s : ℕ) → zone_of text ≡ Some (fixed offset) → second_of_day text (s * 1000) ≡ unsigned_abs (int_rem_euclid (pos s +ℤ offset) (pos 86_400))
unfolding local_seconds
second-is text offset s e =
    let whole : s * 1000 / 1000 ≡ s = omega arith in
    (λ i. unsigned_abs (int_rem_euclid (pos (whole i) +ℤ offset-is text offset (s * 1000) e i) (pos 86_400)))

back : (offset : ℤ) (last k : ℕ) → k ≤ last → unsigned_abs (int_rem_euclid (pos (last - k) +ℤ offset) (pos 86_400)) ≡ (unsigned_abs (int_rem_euclid (pos last +ℤ offset) (pos 86_400)) + 86_400 - k % 86_400) % 86_400
back offset last k le = omega (arith, signed_arith)

-- LAW: so many seconds before another the clock shows a second of the day that lies so far back
pub second-back : (text : List ℕ) (offset : ℤ) → zone_of text ≡ Some (fixed offset) → (last k : ℕ) → k ≤ last
    → second_of_day text ((last - k) * 1000) ≡ (second_of_day text (last * 1000) + 86_400 - k % 86_400) % 86_400
second-back text offset e last k le =
    second-is text offset (last - k) e ∙ back offset last k le ∙ (λ i. (sym (second-is text offset last e) i + 86_400 - k % 86_400) % 86_400)

-- ---- the zone of a steady clock

steady-zone : (text : List ℕ) → is_steady text ≡ true → (offset : ℤ) × (zone_of text ≡ Some (fixed offset))
unfolding zone_of offset_of
steady-zone text h = by (bytes_eq text (codes "UTC")) refl h
  where
    seconds : ℤ
    seconds = offset_seconds (slice_index text 0) (pair text 1) (pair text 4)

    by : (b : Bool) → bytes_eq text (codes "UTC") ≡ b → (b || is_offset text) ≡ true → (offset : ℤ) × (zone_of text ≡ Some (fixed offset))
    by true e h = (pos 0, (λ i. if e i then Some (fixed (pos 0)) else match_some (offset_of text) (option_map posix (read_whole text)) (λ s. Some (fixed s))))
    by false e h = (
      seconds,
      (λ i. if e i then Some (fixed (pos 0)) else match_some (offset_of text) (option_map posix (read_whole text)) (λ s. Some (fixed s)))
          ∙ (λ i. match_some (if h i then Some seconds else None) (option_map posix (read_whole text)) (λ s. Some (fixed s))),
    )

both-tell : (a b : Bool) → (a ≡ true → b ≡ true) → (b ≡ true → a ≡ true) → a ≡ b
both-tell true b h k = sym (h refl)
both-tell false true h k = k refl
both-tell false false h k = refl

module _ (rule : TriggerRule) (text : List ℕ) (from to : ℕ) (offset : ℤ) (zone : zone_of text ≡ Some (fixed offset)) where
  abbrev last : ℕ
  last = to / 1000

  abbrev count : ℕ
  count = passed_count from to

  passes-back : HasTimeBack rule (second_of_day text (last * 1000)) count → PassesSecond text (second_fits rule) from to
  passes-back p =
      let k = p.0 in
      let lt = p.1.0 in
      (last - p.0, (omega (arith, lt), omega arith), ap (second_fits rule) (second-back text offset zone last p.0 (omega (arith, lt))) ∙ p.1.1)

  back-passes : PassesSecond text (second_fits rule) from to → HasTimeBack rule (second_of_day text (last * 1000)) count
  back-passes p =
      let s = p.0 in
      let low = p.1.0 in
      let high = p.1.1 in
      let back : last - (last - p.0) ≡ p.0 = omega (arith, high) in
      (last - p.0, (omega (arith, low, high), ap (second_fits rule) (sym (second-back text offset zone last (last - p.0) (omega arith)) ∙ (λ i. second_of_day text (back i * 1000))) ∙ p.2))

  told : (b : Bool) → IsTrue b ↔ HasTimeBack rule (second_of_day text (last * 1000)) count → b ≡ passed rule text from to
  told b h =
      let law = passes_second-PassesSecond text (second_fits rule) from to in
      both-tell b (passes_second text (second_fits rule) from to) (λ e. law.1 (passes-back (h.0 e))) (λ e. h.1 (back-passes (law.0 e)))

-- LAW: of a steady clock the second of the day tells whether a time of a rule is passed
pub steady-passes : (rule : TriggerRule) (text : List ℕ) (from to : ℕ) (b : Bool) → is_steady text ≡ true
    → IsTrue b ↔ HasTimeBack rule (second_of_day text (to / 1000 * 1000)) (passed_count from to) → b ≡ passed rule text from to
steady-passes rule text from to b steady h = let zone = steady-zone text steady in told rule text from to zone.0 zone.1 b h
