use Rattle.std.proofs.Common.{◌≡◌, ◌-◌, ◌∙◌, ap, arith, length}
use Rattle.segment_runs.specs.Segment.{own_in}
use Rattle.segment_runs.proofs.OverLemmas.{over-length}
use Rattle.segment_runs.proofs.segment.SegmentRuns.len.Goals as goal

pub overflow_sub-result : goal.overflow_sub-result
overflow_sub-result c = omega (arith, c.self.invariant.within, c.count_of.ensures, ap length c.list.ensures)

pub returns : goal.returns
returns c =
    let all = over-length c.self.inside.front c.self.inside.base c.self.inside.numbers c.self.inside.all.list c.self.invariant in
    let here : c.count_of.result - c.self.inside.base ≡ length (own_in c.self.inside.front c.self.inside.base c.self.inside.numbers c.self.inside.all.list) = omega (arith, all, c.count_of.ensures, ap length c.list.ensures) in
    here ∙ (λ i. length (c.self.view_is i).list)
