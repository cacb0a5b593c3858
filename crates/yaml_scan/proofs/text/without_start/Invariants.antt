use Rattle.std.proofs.Common.{◌≡◌, drop}
use Rattle.yaml_scan.specs.Lines.{without_start}
use Rattle.yaml_scan.proofs.text.without_start.Given as goal

abbrev pub invariant-lines : goal.invariant-lines
invariant-lines l = without_start (drop l.i l.lines) ≡ without_start l.lines
