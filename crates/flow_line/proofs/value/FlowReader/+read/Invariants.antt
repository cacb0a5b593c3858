use Rattle.std.proofs.Common.{◌+◌, ◌*◌, length}
use Rattle.reading.proofs.Rows.{Continues}
use Rattle.flow_line.specs.declared.fault.Code.TheVariants.{Syntax}
use Rattle.flow_line.specs.Reading.{items, pair, pairs, value}
use Rattle.flow_line.proofs.value.FlowReader.+read.Given as goal

-- A list reads its items at its own depth, and a value its list one bracket deeper.
abbrev pub decreases-items : goal.decreases-items
decreases-items l = 3 * l.depth + 3

abbrev pub decreases-pairs : goal.decreases-pairs
decreases-pairs l = 3 * l.depth + 3

abbrev pub decreases-pair : goal.decreases-pair
decreases-pair l = 3 * l.depth + 2

abbrev pub decreases-value : goal.decreases-value
decreases-value l = 3 * l.depth + 1

abbrev pub invariant-items-items : goal.invariant-items-items
invariant-items-items l = Continues Syntax 93 (λ found. value l.depth) l.items l.self (items (value l.depth) l.fn.self)

abbrev pub decreases-items-items : goal.decreases-items-items
decreases-items-items l = length l.self

abbrev pub invariant-pairs-pairs : goal.invariant-pairs-pairs
invariant-pairs-pairs l = Continues Syntax 125 (pair (value l.depth)) l.pairs l.self (pairs (value l.depth) l.fn.self)

abbrev pub decreases-pairs-pairs : goal.decreases-pairs-pairs
decreases-pairs-pairs l = length l.self
