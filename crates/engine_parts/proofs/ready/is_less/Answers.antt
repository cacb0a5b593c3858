use Rattle.engine_parts.proofs.PlacedLemmas.{branch-order}
use Rattle.engine_parts.proofs.ready.is_less.Goals as goal

pub returns : goal.returns
returns c = branch-order c.args.left.now c.args.right.now c.lt.result c.lt.ensures
