use Rattle.std.proofs.Common.{◌≡◌, drop, false}
use Rattle.yaml_scan.specs.Lines.{fault_from}
use Rattle.yaml_scan.proofs.text.line_fault.Given as goal

abbrev pub invariant-lines : goal.invariant-lines
invariant-lines l = fault_from l.begun (drop l.line-index l.lines) ≡ fault_from false l.lines
