use Rattle.std.proofs.Common.{◌≡◌, List, length, map}
use Rattle.ha_config.specs.Words.{Text}
use Rattle.flow_line.specs.Command.{cmd_of}
use Rattle.ha_text.specs.Lines.{whole_lines}
use Rattle.ha_worker.specs.Read.{AreOpen}
use Rattle.ha_worker.specs.Taken.{Took}
use Rattle.ha_worker.proofs.lines.read_lines.Given as goal

abbrev pub invariant-lines : goal.invariant-lines
invariant-lines l = record {
  lines : List Text;
  took : Took l.initial.cut lines l.cut;
  cmds_are : l.cmds.items ≡ map cmd_of lines;
  open_all : AreOpen l.cmds.items;
}

abbrev pub decreases-lines : goal.decreases-lines
decreases-lines l = length (whole_lines l.cut)
