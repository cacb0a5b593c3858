use Rattle.std.proofs.Common.{◌≡◌, ◌≤◌, ◌+◌, length}
use Rattle.yaml_scan.specs.Plain.{further}
use Rattle.yaml_scan.proofs.scalars.Lines.plain_further.Given as goal

abbrev pub invariant-lines : goal.invariant-lines
invariant-lines l = record { counted : l.blanks + length l.self ≤ length l.fn.self; so_far : further l.floor l.text.items l.blanks l.self ≡ further l.floor l.fn.text.items 0 l.fn.self }

abbrev pub decreases-lines : goal.decreases-lines
decreases-lines l = length l.self
