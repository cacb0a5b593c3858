use Rattle.std.proofs.Common.{◌-◌, ◌≡◌, ◌≤◌, ◌<◌, ℕ, false}
use Rattle.ha_config.specs.declared.config.TriggerRule.{TriggerRule}
use Rattle.ha_sight.specs.Rules.{second_fits}
use Rattle.time_match.proofs.day.fits_between.Given as goal

abbrev pub invariant-loop-second : goal.invariant-loop-second
invariant-loop-second l = record {
  ahead : l.first ≤ l.second;
  none : (s : ℕ) → l.first ≤ s → s < l.second → second_fits (TriggerRule.Pattern l.hours l.minutes l.seconds) s ≡ false;
}

abbrev pub decreases-loop-second : goal.decreases-loop-second
decreases-loop-second l = l.end - l.second
