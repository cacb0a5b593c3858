use Rattle.std.proofs.Common.{drop}
use Rattle.script_step.proofs.TargetLemmas.{Names}
use Rattle.script_step.proofs.targets.targets_of.Given as goal

abbrev pub invariant-loop-i : goal.invariant-loop-i
invariant-loop-i g l = Names (g.A.Answers.sight l.answers) l.env l.targets (drop l.i l.targets) l.all
