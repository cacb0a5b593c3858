use Rattle.std.proofs.Common.{false}
use Rattle.wait_set.proofs.PairLemmas.{pairs-else}
use Rattle.script_calls.proofs.ApartLemmas.{pairs-apart}
use Rattle.script_calls.proofs.pairs.unlist.Goals as goal

pub returns-clause-others : goal.returns-clause-others
returns-clause-others c = pairs-else c.args.pairs.now c.remove.new.self c.args.caller c.args.called false c.remove.ensures.updates

pub returns-clause-apart : goal.returns-clause-apart
returns-clause-apart c = pairs-apart c.args.pairs.now c.remove.new.self c.args.caller c.args.called false c.remove.ensures.updates
