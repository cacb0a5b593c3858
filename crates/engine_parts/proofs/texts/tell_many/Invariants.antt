use Rattle.std.proofs.Common.{take}
use Rattle.state_table.specs.Table.{at}
use Rattle.entity_places.specs.Placed.{ArePlaced}
use Rattle.engine_parts.specs.Texts.{AreTold, change_is_of}
use Rattle.engine_parts.proofs.texts.tell_many.Given as goal

abbrev pub invariant-loop-place : goal.invariant-loop-place
invariant-loop-place l = record {
  told : AreTold l.now (at l.initial.states) (take l.place l.changes) l.states l.before;
  placed : ArePlaced l.places change_is_of (take l.place l.changes);
}
