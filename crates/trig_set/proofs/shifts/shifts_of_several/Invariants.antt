use Rattle.std.proofs.Common.{take}
use Rattle.trig_set.specs.Shifts.{AreMade}
use Rattle.trig_set.proofs.shifts.shifts_of_several.Given as goal

abbrev pub invariant-loop-place : goal.invariant-loop-place
invariant-loop-place g l = AreMade l.events l.entry (g.A.Answers.sight l.answers) (take l.place l.listed) l.shifts
