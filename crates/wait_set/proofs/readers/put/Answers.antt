use Rattle.wait_set.proofs.ConcernLemmas.{put-kept, put-other}
use Rattle.wait_set.proofs.readers.put.Goals as goal

pub returns-clause-kept : goal.returns-clause-kept
returns-clause-kept c = put-kept c.args.owners.now c.insert.new.self c.args.owner c.in_ok-insert.ensures.updates

pub returns-clause-apart : goal.returns-clause-apart
returns-clause-apart c = put-other c.args.owners.now c.insert.new.self c.args.owner c.in_ok-insert.ensures.updates
