-- The next time of a rule in a zone, and the moments that pass it.
use Rattle.std.proofs.Common.{◌≡◌, ◌∙◌, ◌+◌, ◌-◌, ◌*◌, ◌/◌, ◌%◌, ◌<◌, ◌≤◌, max, ap, sym, refl, subst, arith, ℕ, Bool, true, false, List, Option, Some, None, MatchOption}
use Rattle.ha_clock.specs.Local.{second_of_day}
use Rattle.ha_clock.specs.Passed.{passes_second}
use Rattle.ha_clock.specs.Zone.{zone_offset}
use Rattle.ha_clock.proofs.PassedLemmas.{passes_second-PassesSecond}
use Rattle.ha_config.specs.declared.config.TriggerRule.{TriggerRule}
use Rattle.ha_sight.specs.Rules.{has_times, passed, second_fits}
use Rattle.time_next.specs.Day.{IsAhead}
use Rattle.time_next.specs.Next.{Sleeps, fits_at, is_steady}
use Rattle.time_next.proofs.ZoneLemmas.{second-ahead, second-of-day, steady-same}

-- ---- behind a second

module _ (rule : TriggerRule) (zone : List ℕ) (first shown ahead : ℕ) (shows : shown ≡ second_of_day zone (first * 1000)) (next : IsAhead rule shown ahead) where
  -- what the rule says of a second, where the clock is as far ahead there as at the first
  fits-ahead : (k : ℕ) → zone_offset zone ((first + k) * 1000) ≡ zone_offset zone (first * 1000) → fits_at rule zone (first + k) ≡ second_fits rule ((shown + k) % 86_400)
  fits-ahead k e = ap (second_fits rule) (second-ahead zone first k e ∙ ap (λ (s : ℕ). (s + k) % 86_400) (sym shows))

  -- LAW: as long as the clock goes on evenly no second before the next time fits
  pub skipped : (end : ℕ) → ((k : ℕ) → first + k < end → zone_offset zone ((first + k) * 1000) ≡ zone_offset zone (first * 1000))
      → (s : ℕ) → first < s → s < end → s < first + ahead → fits_at rule zone s ≡ false
  skipped end even s low high before =
      let at : first + (s - first) ≡ s = omega (arith, low) in
      ap (fits_at rule zone) (sym at) ∙ fits-ahead (s - first) (even (s - first) (omega (arith, low, high))) ∙ next.skipped (s - first) (omega (arith, low)) (omega (arith, low, before))

  -- LAW: where it always does, the next time fits, if any second does
  pub found : is_steady zone ≡ true → (s : ℕ) → fits_at rule zone s ≡ true → fits_at rule zone (first + ahead) ≡ true
  found steady s h = fits-ahead ahead (steady-same zone steady ((first + ahead) * 1000) (first * 1000)) ∙ next.found (second_of_day zone (s * 1000)) (second-of-day zone (s * 1000)) h

-- ---- moments

no-and-yes : (b : Bool) → b ≡ false → b ≡ true → ⊥
no-and-yes b h k = let bad : ◌≡◌ {A = Bool} false true = sym h ∙ k in cc

not-true : (b : Bool) → (b ≡ true → ⊥) → b ≡ false
not-true true h = absurd (h refl)
not-true false h = refl

-- a second that passes is a time of a rule that has times
has-time : (rule : TriggerRule) (s : ℕ) → second_fits rule s ≡ true → has_times rule ≡ true
has-time (TriggerRule.Time seconds) s h = refl
has-time (TriggerRule.Pattern hours minutes seconds) s h = refl
has-time (TriggerRule.State entities attribute from to) s h = h
has-time (TriggerRule.Numeric entities attribute above below) s h = h
has-time (TriggerRule.Event kinds pairs) s h = h
has-time (TriggerRule.Template t) s h = h
has-time TriggerRule.Start s h = h

module _ (from to : ℕ) (rule : TriggerRule) (zone : List ℕ) where
  -- LAW: before the due of a rule that sleeps no time is passed
  pub sleeps-not : (due : Option ℕ) → Sleeps zone from due rule → MatchOption due (Unit {0}) (λ d. to < d) → passed rule zone from to ≡ false
  sleeps-not due sleeps before = not-true (passes_second zone (second_fits rule) from to) (λ passes.
      let p = (passes_second-PassesSecond zone (second_fits rule) from to).0 passes in
      by due (sleeps (has-time rule (second_of_day zone (p.0 * 1000)) p.2)) before p.0 p.1.0 p.1.1 p.2)
    where
      by : (o : Option ℕ) → MatchOption o ⊥ (λ d. (s : ℕ) → from < s * 1000 → s * 1000 < d → fits_at rule zone s ≡ false) → MatchOption o (Unit {0}) (λ d. to < d)
          → (s : ℕ) → max from (to - 86_400_000) < s * 1000 → s * 1000 ≤ to → fits_at rule zone s ≡ true → ⊥
      by None none before s low high h = none
      by (Some d) none before s low high h = no-and-yes (fits_at rule zone s) (none s (omega (arith, low)) (omega (arith, high, before))) h

  -- LAW: a rule sleeps on as Now goes on, up to an earlier due too
  pub sleeps-on : (due least : ℕ) → Sleeps zone from (Some due) rule → from ≤ to → least ≤ due → Sleeps zone to (Some least) rule
  sleeps-on due least sleeps on le = λ times s low high. sleeps times s (omega (arith, low, on)) (omega (arith, high, le))

  -- LAW: at a second that is a time of the rule one is passed
  pub passed-there : from < to → to / 1000 * 1000 ≡ to → fits_at rule zone (to / 1000) ≡ true → passed rule zone from to ≡ true
  passed-there less whole h = (passes_second-PassesSecond zone (second_fits rule) from to).1 (to / 1000, (omega (arith, less, whole), omega (arith, whole)), h)

-- ---- the earlier of a due and a time

-- LAW: what sleeps up to a due sleeps up to an earlier one
pub sleeps-least : (zone : List ℕ) (after : ℕ) (due : Option ℕ) (d least : ℕ) (rule : TriggerRule) → due ≡ Some d → least ≤ d → Sleeps zone after due rule → Sleeps zone after (Some least) rule
sleeps-least zone after due d least rule is le h = sleeps-on after after rule zone d least (subst (λ (o : Option ℕ). Sleeps zone after o rule) is h) (omega arith) le

-- LAW: of no due nothing sleeps but what has no times
pub sleeps-none : (zone : List ℕ) (after : ℕ) (due : Option ℕ) (next : ℕ) (rule : TriggerRule) → due ≡ None → Sleeps zone after due rule → Sleeps zone after (Some next) rule
sleeps-none zone after due next rule is h = λ times. absurd (subst (λ (o : Option ℕ). Sleeps zone after o rule) is h times)

-- LAW: nor does it where it has none
pub sleeps-bare : (zone : List ℕ) (after : ℕ) (due : Option ℕ) (rule : TriggerRule) → has_times rule ≡ false → Sleeps zone after due rule
sleeps-bare zone after due rule bare = λ times. absurd (no-and-yes (has_times rule) bare times)
