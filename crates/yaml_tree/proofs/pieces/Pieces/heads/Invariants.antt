use Rattle.std.proofs.Common.{◌≡◌, ◌+◌, length, drop}
use Rattle.yaml_tree.specs.Pieces.{heads}
use Rattle.yaml_tree.proofs.pieces.Pieces.heads.Given as goal

abbrev pub invariant-bytes : goal.invariant-bytes
invariant-bytes l = record {
  lines_same : l.self.lines ≡ l.fn.self.lines;
  so_far : heads l.self.found.items l.number l.spaced (l.indent + l.at) (drop l.at l.bytes) l.self.lines ≡ heads l.fn.self.found.items l.number l.before l.indent l.bytes l.fn.self.lines;
}

abbrev pub decreases-bytes : goal.decreases-bytes
decreases-bytes l = length (drop l.at l.bytes)
