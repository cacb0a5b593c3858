use Rattle.std.proofs.Common.{◌≡◌, ◌≤◌, ◌+◌, length}
use Rattle.yaml_scan.specs.Block.{opening}
use Rattle.yaml_scan.proofs.scalars.Lines.opening.Given as goal

abbrev pub invariant-lines : goal.invariant-lines
invariant-lines l = record { counted : l.empties + length l.self ≤ length l.fn.self; so_far : opening l.fold l.strip l.floor l.empties l.self ≡ opening l.fold l.strip l.floor 0 l.fn.self }

abbrev pub decreases-lines : goal.decreases-lines
decreases-lines l = length l.self
