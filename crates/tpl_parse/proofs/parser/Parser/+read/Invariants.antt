use Rattle.std.proofs.Common.{ℕ, ◌+◌, ◌-◌, ◌*◌, ◌<◌, length}
use Rattle.tpl_parse.specs.declared.expression.Level.{Level}
use Rattle.tpl_parse.specs.Reading.{arguments, chain, expression, filtered, opened, operand, operators, reached}
use Rattle.reading.proofs.Turns.{Continues}
use Rattle.tpl_parse.proofs.Loops.{further, further_filters, further_items, further_parts}
use Rattle.tpl_parse.proofs.parser.Parser.+read.Given as goal

-- Each rule calls the next one of the grammar, and a bracket, `else`, `not` and a sign open what is less deep.
abbrev rank : Level → ℕ
rank Level.Or = 19
rank Level.And = 17
rank Level.Sum = 13
rank Level.Join = 11
rank Level.Product = 9

abbrev pub decreases-enclosed : goal.decreases-enclosed
decreases-enclosed l = 24 * l.depth + 22

abbrev pub decreases-expression : goal.decreases-expression
decreases-expression l = 24 * l.depth + 21

abbrev pub decreases-otherwise : goal.decreases-otherwise
decreases-otherwise l = 24 * l.depth + 20

abbrev pub decreases-chain : goal.decreases-chain
decreases-chain l = 24 * l.depth + (rank l.level + 1)

abbrev pub decreases-operand : goal.decreases-operand
decreases-operand l = 24 * l.depth + rank l.level

abbrev pub decreases-negation : goal.decreases-negation
decreases-negation l = 24 * l.depth + 16

abbrev pub decreases-comparison : goal.decreases-comparison
decreases-comparison l = 24 * l.depth + 15

abbrev pub decreases-filtered : goal.decreases-filtered
decreases-filtered l = 24 * l.depth + 8

abbrev pub decreases-signed : goal.decreases-signed
decreases-signed l = 24 * l.depth + 7

abbrev pub decreases-filter_arguments : goal.decreases-filter_arguments
decreases-filter_arguments l = 24 * l.depth + 7

abbrev pub decreases-reached : goal.decreases-reached
decreases-reached l = 24 * l.depth + 6

abbrev pub decreases-atom : goal.decreases-atom
decreases-atom l = 24 * l.depth + 5

abbrev pub decreases-word_atom : goal.decreases-word_atom
decreases-word_atom l = 24 * l.depth + 4

abbrev pub decreases-called : goal.decreases-called
decreases-called l = 24 * l.depth + 3

abbrev pub decreases-arguments : goal.decreases-arguments
decreases-arguments l = 24 * l.depth + 2

-- What was found so far, and the turns that are left, give the whole.
abbrev pub invariant-chain-operators : goal.invariant-chain-operators
invariant-chain-operators l =
    Continues (further (operators l.level) (operand l.level (opened l.depth))) l.part l.self (chain (operators l.level) (operand l.level (opened l.depth)) l.fn.self)

abbrev pub decreases-chain-operators : goal.decreases-chain-operators
decreases-chain-operators l = length l.self

abbrev pub invariant-filtered-filters : goal.invariant-filtered-filters
invariant-filtered-filters l = Continues (further_filters (opened l.depth)) l.base l.self (filtered (opened l.depth) l.fn.self)

abbrev pub decreases-filtered-filters : goal.decreases-filtered-filters
decreases-filtered-filters l = length l.self

abbrev pub invariant-reached-parts : goal.invariant-reached-parts
invariant-reached-parts l = Continues (further_parts (opened l.depth)) l.base l.self (reached (opened l.depth) l.fn.self)

abbrev pub decreases-reached-parts : goal.decreases-reached-parts
decreases-reached-parts l = length l.self

-- an item stands inside, where one less may be opened
abbrev pub invariant-arguments-items : goal.invariant-arguments-items
invariant-arguments-items l =
    (0 < l.depth) × Continues (further_items (expression (opened (l.depth - 1))) l.close l.counts) l.items l.self (arguments (opened l.depth) l.close l.counts l.fn.self)

abbrev pub decreases-arguments-items : goal.decreases-arguments-items
decreases-arguments-items l = length l.self
