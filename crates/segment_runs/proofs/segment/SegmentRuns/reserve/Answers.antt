use Rattle.std.proofs.Common.{◌∙◌}
use Rattle.segment_runs.proofs.OverLemmas.{over-same}
use Rattle.segment_runs.proofs.segment.SegmentRuns.reserve.Goals as goal

pub invariant_of-self : goal.invariant_of-self
invariant_of-self c = (over-same c.self.inside.front c.self.inside.base c.self.inside.numbers c.self.inside.all.list c.self.invariant c.reserve.new.self.list c.reserve.ensures.list).over

pub returns-clause-list : goal.returns-clause-list
returns-clause-list c =
    (over-same c.self.inside.front c.self.inside.base c.self.inside.numbers c.self.inside.all.list c.self.invariant c.reserve.new.self.list c.reserve.ensures.list).list ∙ (λ i. (c.self.view_is i).list)

pub returns-clause-closed : goal.returns-clause-closed
returns-clause-closed c =
    (over-same c.self.inside.front c.self.inside.base c.self.inside.numbers c.self.inside.all.list c.self.invariant c.reserve.new.self.list c.reserve.ensures.list).closed ∙ (λ i. (c.self.view_is i).closed)

pub returns-clause-kept : goal.returns-clause-kept
returns-clause-kept c = rw (← c.self.view_is) c.reserve.ensures.kept

pub returns-clause-succeeds : goal.returns-clause-succeeds
returns-clause-succeeds c = rw (← c.self.view_is) c.reserve.ensures.succeeds
