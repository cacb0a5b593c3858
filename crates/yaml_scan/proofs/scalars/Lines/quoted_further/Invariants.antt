use Rattle.std.proofs.Common.{◌≡◌, ◌≤◌, ◌+◌, length}
use Rattle.yaml_scan.specs.Quoted.{further}
use Rattle.yaml_scan.proofs.scalars.Lines.quoted_further.Given as goal

abbrev pub invariant-lines : goal.invariant-lines
invariant-lines l = record { counted : l.count + length l.self ≤ length l.fn.self; so_far : further l.floor l.first l.count l.quoted l.self ≡ further l.floor l.first 0 l.fn.quoted l.fn.self }

abbrev pub decreases-lines : goal.decreases-lines
decreases-lines l = length l.self
