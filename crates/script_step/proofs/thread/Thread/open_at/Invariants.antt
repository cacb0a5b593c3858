use Rattle.std.proofs.Common.{◌≡◌, take}
use Rattle.script_step.specs.OpenBlocks.{last_left}
use Rattle.script_step.specs.Parts.{list_in}
use Rattle.script_step.proofs.thread.Thread.open_at.Given as goal

abbrev pub invariant-loop-i : goal.invariant-loop-i
invariant-loop-i l = record {
  own : l.own ≡ list_in l.list (take l.i l.outer);
  found : l.found ≡ last_left l.list (take l.i l.outer);
}
