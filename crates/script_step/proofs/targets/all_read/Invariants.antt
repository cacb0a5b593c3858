use Rattle.std.proofs.Common.{length}
use Rattle.script_step.proofs.EachLemmas.{Goes}
use Rattle.script_step.proofs.TargetLemmas.{parts, read_part}
use Rattle.script_step.proofs.targets.all_read.Given as goal

abbrev pub invariant-loop-i : goal.invariant-loop-i
invariant-loop-i l = Goes read_part (parts l.text) (parts l.rest) l.all

abbrev pub decreases-loop-i : goal.decreases-loop-i
decreases-loop-i l = length l.rest
