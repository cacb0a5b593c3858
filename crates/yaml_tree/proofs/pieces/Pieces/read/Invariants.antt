use Rattle.std.proofs.Common.{suc, length, ◌≤◌}
use Rattle.yaml_tree.specs.Pieces.{pieces}
use Rattle.yaml_tree.proofs.Lines.{Continues}
use Rattle.yaml_tree.proofs.pieces.Pieces.read.Given as goal

abbrev pub invariant-lines : goal.invariant-lines
invariant-lines l = record { so_far : Continues l.self.found.items l.self.lines (pieces (suc (length l.fn.self.lines)) l.fn.self.found.items l.fn.self.lines); fewer : length l.self.lines ≤ length l.fn.self.lines }

abbrev pub decreases-lines : goal.decreases-lines
decreases-lines l = length l.self.lines
