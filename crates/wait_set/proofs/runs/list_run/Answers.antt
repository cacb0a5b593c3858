use Rattle.wait_set.proofs.PairLemmas.{pairs-more}
use Rattle.wait_set.proofs.runs.list_run.Goals as goal

pub returns-clause-kept : goal.returns-clause-kept
returns-clause-kept c = pairs-more c.args.runs.now c.insert.new.self c.args.serial c.args.owner c.in_ok-insert.ensures.updates
