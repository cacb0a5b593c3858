use Rattle.std.proofs.Common.{◌≤◌, length, drop}
use Rattle.engine_entry.specs.Lasts.{AreLasts, AreSeen, knows}
use Rattle.engine_entry.proofs.step_enter.last_targets.Given as goal

abbrev pub invariant-targets : goal.invariant-targets
invariant-targets l = record { fits : l.left ≤ length l.targets; lasts : AreLasts (knows l.switches) (drop l.left l.targets) l.kept.items; seen : AreSeen l.seen l.kept.items }

abbrev pub decreases-targets : goal.decreases-targets
decreases-targets l = l.left
