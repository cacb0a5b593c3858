use Rattle.std.proofs.Common.{◌≡◌, ◌-◌, ◌∙◌, arith, length}
use Rattle.segment_runs.specs.Segment.{own_in}
use Rattle.segment_runs.proofs.OverLemmas.{over-length}
use Rattle.segment_runs.proofs.segment.SegmentRuns.count.Goals as goal

pub overflow_sub-result : goal.overflow_sub-result
overflow_sub-result c = omega (arith, c.self.invariant.within, c.count.ensures.value)

pub returns-clause-value : goal.returns-clause-value
returns-clause-value c =
    let all = over-length c.self.inside.front c.self.inside.base c.self.inside.numbers c.self.inside.all.list c.self.invariant in
    let here : c.count.result - c.self.inside.base ≡ length (own_in c.self.inside.front c.self.inside.base c.self.inside.numbers c.self.inside.all.list) = omega (arith, all, c.count.ensures.value) in
    here ∙ (λ i. length (c.self.view_is i).list)

pub returns-clause-few : goal.returns-clause-few
returns-clause-few c = omega (arith, c.count.ensures.few)
