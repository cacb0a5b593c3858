use Rattle.std.proofs.Common.{◌∙◌, sym, arith}
use Rattle.segment_carry.proofs.JoinLemmas.{behind-other, behind-there, there-within}
use Rattle.segment_carry.proofs.numbers.behind.Goals as goal

pub overflow_add-result : goal.overflow_add-result
overflow_add-result c = (let within = there-within c.args.name.now c.args.left.now c.args.at (sym c.is_at.ensures ∙ c.if-is_at.true) in omega (arith, within))

pub returns-then-is_at : goal.returns-then-is_at
returns-then-is_at c = behind-there c.args.name.now c.args.left.now c.args.at (sym c.is_at.ensures ∙ c.if-is_at.true)

pub returns : goal.returns
returns c = behind-other c.args.name.now c.args.left.now c.args.at (sym c.is_at.ensures ∙ c.if-is_at.false)
