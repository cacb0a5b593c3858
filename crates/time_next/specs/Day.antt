-- The times of a rule among the seconds of a day.
use Rattle.std.specs.Prelude.{◌≡◌, ℕ, ◌+◌, ◌%◌, ◌<◌, ◌≤◌, true, false, ◌&&◌, nat_le, nat_lt, if◌then◌else◌}
use Rattle.ha_config.specs.declared.config.TriggerRule.{TriggerRule}
use Rattle.ha_sight.specs.Rules.{second_fits}

-- the second in place of the one that was found, where it lies from `first` on and before that
abbrev pub nearer : ℕ → ℕ → ℕ → ℕ
nearer first found second = if nat_le first second && nat_lt second found then second else found

-- the first second of the day from `first` on that is a time of the rule; 86,400 where none is
pub record IsFirst (rule : TriggerRule) (first found : ℕ) : Type 0 where
  pub from : first ≤ found
  pub within : found ≤ 86_400
  pub skipped : (s : ℕ) → first ≤ s → s < found → second_fits rule s ≡ false
  pub fits : found < 86_400 → second_fits rule found ≡ true

-- so many seconds behind the second of the day that is shown the next time of the rule comes, perhaps on the day after; 86,400 where the
-- rule has none
pub record IsAhead (rule : TriggerRule) (shown ahead : ℕ) : Type 0 where
  pub later : 0 < ahead
  pub within : ahead ≤ 86_400
  pub skipped : (k : ℕ) → 0 < k → k < ahead → second_fits rule ((shown + k) % 86_400) ≡ false
  pub found : (s : ℕ) → s < 86_400 → second_fits rule s ≡ true → second_fits rule ((shown + ahead) % 86_400) ≡ true
