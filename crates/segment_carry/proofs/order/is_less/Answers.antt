use Rattle.segment_carry.proofs.ByNameLemmas.{text-order}
use Rattle.segment_carry.proofs.order.is_less.Goals as goal

pub returns : goal.returns
returns c = text-order c.args.left.now c.args.right.now c.lt.result c.lt.ensures
