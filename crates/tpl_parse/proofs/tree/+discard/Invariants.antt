use Rattle.std.proofs.Common.{◌≤◌, length}
use Rattle.tpl_parse.proofs.tree.+discard.Given as goal

-- What is left is no deeper than the whole.
abbrev pub invariant-discard-links : goal.invariant-discard-links
invariant-discard-links l =
    goal.size-discard (record { expr = l.expr; the-lifetimes = tt }) ≤ goal.size-discard (record { expr = l.fn.expr; the-lifetimes = tt })

abbrev pub invariant-discard_all-loop-expr : goal.invariant-discard_all-loop-expr
invariant-discard_all-loop-expr l = goal.no_deeper-discard_all-loop-expr l

abbrev pub decreases-discard_all-loop-expr : goal.decreases-discard_all-loop-expr
decreases-discard_all-loop-expr l = length l.items
