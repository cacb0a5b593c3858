use Rattle.std.proofs.Common.{◌≡◌, ◌≤◌, ◌+◌, ◌++◌, take, drop, []}
use Rattle.yaml_scan.specs.Lines.{lines_from}
use Rattle.yaml_scan.proofs.text.lines.Given as goal

abbrev pub invariant-text : goal.invariant-text
invariant-text l = record {
  begun : l.start ≤ l.i;
  numbered : l.number ≤ l.start + 1;
  so_far : l.lines ++ lines_from l.number (drop l.start (take l.i l.text)) (drop l.i l.text) ≡ lines_from 1 [] l.text;
}
