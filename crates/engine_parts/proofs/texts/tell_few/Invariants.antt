use Rattle.std.proofs.Common.{take}
use Rattle.state_table.specs.Table.{at}
use Rattle.engine_parts.specs.Texts.{AreTold}
use Rattle.engine_parts.proofs.texts.tell_few.Given as goal

abbrev pub invariant-loop-place : goal.invariant-loop-place
invariant-loop-place l = AreTold l.now (at l.initial.states) (take l.place l.changes) l.states l.before
