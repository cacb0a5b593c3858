use Rattle.std.proofs.Common.{false}
use Rattle.wait_set.proofs.PairLemmas.{pairs-else}
use Rattle.wait_set.proofs.runs.unlist.Goals as goal

pub returns-clause-others : goal.returns-clause-others
returns-clause-others c = pairs-else c.args.runs.now c.remove.new.self c.args.serial c.args.owner false c.remove.ensures.updates
