use Rattle.segment_runs.proofs.OverLemmas.{over-none}
use Rattle.segment_runs.proofs.segment.SegmentRuns.make.Goals as goal

pub invariant_of-result : goal.invariant_of-result
invariant_of-result c = (over-none c.make-all.result.list _ c.make-all.ensures c.make.ensures).over

pub returns-clause-list : goal.returns-clause-list
returns-clause-list c = (over-none c.make-all.result.list _ c.make-all.ensures c.make.ensures).list

pub returns-clause-closed : goal.returns-clause-closed
returns-clause-closed c = (over-none c.make-all.result.list _ c.make-all.ensures c.make.ensures).closed
