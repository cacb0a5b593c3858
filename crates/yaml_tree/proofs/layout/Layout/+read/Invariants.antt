use Rattle.std.proofs.Common.{◌≤◌, ◌+◌, ◌*◌, length}
use Rattle.yaml_tree.specs.Layout.{item, pair, list, map, node, list_on, map_on}
use Rattle.yaml_tree.proofs.Rows.{Continues}
use Rattle.yaml_tree.proofs.layout.Layout.+read.Given as goal

-- A list reads its items at its own depth, and a node its list one deeper.
abbrev pub decreases-list : goal.decreases-list
decreases-list l = 4 * l.depth + 3

abbrev pub decreases-map : goal.decreases-map
decreases-map l = 4 * l.depth + 3

abbrev pub decreases-item : goal.decreases-item
decreases-item l = 4 * l.depth + 2

abbrev pub decreases-pair : goal.decreases-pair
decreases-pair l = 4 * l.depth + 2

abbrev pub decreases-node : goal.decreases-node
decreases-node l = 4 * l.depth + 1

abbrev pub invariant-list-items : goal.invariant-list-items
invariant-list-items l = record { so_far : Continues (list_on l.column) (λ found. item (node l.depth)) l.items l.self (list (node l.depth) l.column l.fn.self); shorter : length l.self ≤ length l.fn.self }

abbrev pub decreases-list-items : goal.decreases-list-items
decreases-list-items l = length l.self

abbrev pub invariant-map-pairs : goal.invariant-map-pairs
invariant-map-pairs l = record { so_far : Continues (map_on l.column) (pair (node l.depth)) l.pairs l.self (map (node l.depth) l.column l.fn.self); shorter : length l.self ≤ length l.fn.self }

abbrev pub decreases-map-pairs : goal.decreases-map-pairs
decreases-map-pairs l = length l.self
