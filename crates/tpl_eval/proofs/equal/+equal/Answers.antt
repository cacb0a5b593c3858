use Rattle.tpl_eval.proofs.EqualLemmas.{items-lengths, pairs-lengths}
use Rattle.tpl_eval.proofs.equal.+equal.Goals as goal

pub equal_items-returns-then-left-right : goal.equal_items-returns-then-left-right
equal_items-returns-then-left-right t c = items-lengths c.args.left.now c.args.right.now c.if-left-right.true

pub equal_pairs-returns-then-left-right : goal.equal_pairs-returns-then-left-right
equal_pairs-returns-then-left-right t c = pairs-lengths c.args.left.now c.args.right.now c.if-left-right.true
