use Rattle.std.proofs.Common.{◌≤◌, drop, length}
use Rattle.helper_set.specs.Changes.{Changes}
use Rattle.helper_set.specs.Kept.{AreApart}
use Rattle.helper_set.proofs.set.change_all.Given as goal

abbrev pub invariant-changes : goal.invariant-changes
invariant-changes l = record { fits : l.left ≤ length l.changes; made : AreApart l.initial.kept.items → Changes l.at (drop l.left l.changes) l.initial.timers l.timers l.initial.kept.items l.kept.items }

abbrev pub decreases-changes : goal.decreases-changes
decreases-changes l = l.left
