-- Rules of times, and what is asked of them where the clock is always as far ahead of UTC.
use Rattle.std.specs.Prelude.{◌≡◌, ℕ, ◌+◌, ◌-◌, ◌%◌, ◌<◌, ◌≤◌, Bool, true, ◌||◌, codes}
use Rattle.std.specs.Str.{bytes_eq}
use Rattle.ha_clock.specs.Zone.{is_offset}
use Rattle.ha_config.specs.declared.config.TriggerRule.{TriggerRule}
use Rattle.ha_config.specs.Words.{Text}
use Rattle.ha_sight.specs.Rules.{second_fits}

-- ---- by arithmetic on the second of the day

-- the zone of the text is UTC or an offset: its clock is always as far ahead
abbrev pub is_steady : Text → Bool
is_steady zone = bytes_eq zone (codes "UTC") || is_offset zone

-- one of the seconds of the day from `first` on, before `end`, fits the rule
abbrev pub HasTime : TriggerRule → ℕ → ℕ → Type 0
HasTime rule first end = (s : ℕ) × ((first ≤ s) × (s < end) × (second_fits rule s ≡ true))

-- one of the `count` seconds that end with the second of the day `last` is one, perhaps of days before
abbrev pub HasTimeBack : TriggerRule → ℕ → ℕ → Type 0
HasTimeBack rule last count = (k : ℕ) × ((k < count) × (second_fits rule ((last + 86_400 - k % 86_400) % 86_400) ≡ true))
