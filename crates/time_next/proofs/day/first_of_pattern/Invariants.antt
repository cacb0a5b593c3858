use Rattle.std.proofs.Common.{◌-◌, ◌≡◌, ◌≤◌, ◌<◌, ℕ, false}
use Rattle.ha_config.specs.declared.config.TriggerRule.{TriggerRule}
use Rattle.ha_sight.specs.Rules.{second_fits}
use Rattle.time_next.proofs.day.first_of_pattern.Given as goal

abbrev pub invariant-loop-second : goal.invariant-loop-second
invariant-loop-second l = record {
  ahead : l.first ≤ l.second;
  within : l.second ≤ 86_400;
  none : (s : ℕ) → l.first ≤ s → s < l.second → second_fits (TriggerRule.Pattern l.hours l.minutes l.seconds) s ≡ false;
}

abbrev pub decreases-loop-second : goal.decreases-loop-second
decreases-loop-second l = 86_400 - l.second
