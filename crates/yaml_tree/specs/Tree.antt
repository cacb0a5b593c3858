-- The tree of a text, or its first fault.
use Rattle.std.specs.Prelude.{ℕ, List, Option, Some, None, Result, Ok, Err}
use Rattle.yaml_scan.specs.declared.fault.Fault.{Fault}
use Rattle.yaml_scan.specs.Lines.{lines, line_fault, least, without_start}
use Rattle.yaml_tree.specs.declared.node.Node.{Node}
use Rattle.yaml_tree.specs.Layout.{Answer, document}
use Rattle.yaml_tree.specs.Pieces.{Found, all_pieces}

abbrev pub fault_of : Answer Node → Option Fault
fault_of (Ok x) = None
fault_of (Err f) = Some f

-- A fault of a line alone, of a piece, or of the place where a piece stands: each of the three stops at its own first one, and
-- the least of these by line and code is the text's.
abbrev pub faults : Option Fault → Option Fault → Answer Node → Option Fault
faults in_lines in_pieces answer = least in_lines (least in_pieces (fault_of answer))

abbrev pub judged : Option Fault → Answer Node → Result Node Fault
judged (Some f) answer = Err f
judged None (Ok x) = Ok x.0
judged None (Err f) = Err f

abbrev pub of_pieces : Option Fault → Found → Result Node Fault
of_pieces in_lines f = judged (faults in_lines f.fault (document f.pieces)) (document f.pieces)

abbrev pub tree : List ℕ → Result Node Fault
tree text = of_pieces (line_fault (lines text)) (all_pieces (without_start (lines text)))
