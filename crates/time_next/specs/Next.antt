-- The seconds at which the clock of a zone passes a rule. A second is counted from 1970 on.
use Rattle.std.specs.Prelude.{◌≡◌, ℕ, ◌*◌, ◌<◌, Bool, true, false, ◌||◌, Option, MatchOption, codes}
use Rattle.std.specs.Str.{bytes_eq}
use Rattle.ha_clock.specs.Local.{second_of_day}
use Rattle.ha_clock.specs.Zone.{is_offset}
use Rattle.ha_config.specs.declared.config.TriggerRule.{TriggerRule}
use Rattle.ha_config.specs.Words.{Text}
use Rattle.ha_sight.specs.Rules.{has_times, second_fits}

-- the zone of the text is UTC or an offset: its clock is always as far ahead
abbrev pub is_steady : Text → Bool
is_steady zone = bytes_eq zone (codes "UTC") || is_offset zone

-- the second is a time of the rule
abbrev pub fits_at : TriggerRule → Text → ℕ → Bool
fits_at rule zone s = second_fits rule (second_of_day zone (s * 1000))

-- the rule has no times, or no second behind a moment and before the due is one
abbrev pub Sleeps : Text → ℕ → Option ℕ → TriggerRule → Type 0
Sleeps zone after due rule =
    has_times rule ≡ true → MatchOption due ⊥ (λ d. (s : ℕ) → after < s * 1000 → s * 1000 < d → fits_at rule zone s ≡ false)
