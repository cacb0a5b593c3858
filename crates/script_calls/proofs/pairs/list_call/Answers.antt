use Rattle.std.proofs.Common.{true}
use Rattle.wait_set.proofs.PairLemmas.{pairs-else}
use Rattle.script_calls.proofs.ApartLemmas.{pairs-apart}
use Rattle.script_calls.proofs.pairs.list_call.Goals as goal

pub returns-clause-others : goal.returns-clause-others
returns-clause-others c = pairs-else c.args.pairs.now c.insert.new.self c.args.caller c.args.called true c.in_ok-insert.ensures.updates

pub returns-clause-apart : goal.returns-clause-apart
returns-clause-apart c = pairs-apart c.args.pairs.now c.insert.new.self c.args.caller c.args.called true c.in_ok-insert.ensures.updates
