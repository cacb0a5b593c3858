use Rattle.std.proofs.Common.{◌≡◌, ◌≤◌, ◌+◌, length}
use Rattle.yaml_scan.specs.Block.{body}
use Rattle.yaml_scan.proofs.scalars.Lines.body.Given as goal

abbrev pub invariant-lines : goal.invariant-lines
invariant-lines l = record { counted : l.block.empties + length l.self ≤ l.fn.block.empties + length l.fn.self; shorter : length l.self ≤ length l.fn.self; so_far : body l.strip l.indent l.block l.self ≡ body l.strip l.indent l.fn.block l.fn.self }

abbrev pub decreases-lines : goal.decreases-lines
decreases-lines l = length l.self
