use Rattle.std.proofs.Common.{◌∙◌, subst, sym}
use Rattle.segment_runs.specs.Goes.{CountAlike}
use Rattle.segment_runs.specs.Segment.{SegmentTable, number_at}
use Rattle.segment_runs.proofs.OverLemmas.{over-enter}
use Rattle.segment_runs.proofs.segment.SegmentRuns.enter.Goals as goal

pub invariant_of-self : goal.invariant_of-self
invariant_of-self c =
    let alike = subst (λ (t : SegmentTable). CountAlike (number_at t.closed.numbers) (number_at c.args.numbers) t.list) (sym c.self.view_is) c.requires in
    (over-enter c.self.inside.front c.self.inside.base c.self.inside.numbers c.self.inside.all.list c.self.invariant c.args.numbers alike).over

pub returns-clause-list : goal.returns-clause-list
returns-clause-list c =
    let alike = subst (λ (t : SegmentTable). CountAlike (number_at t.closed.numbers) (number_at c.args.numbers) t.list) (sym c.self.view_is) c.requires in
    (over-enter c.self.inside.front c.self.inside.base c.self.inside.numbers c.self.inside.all.list c.self.invariant c.args.numbers alike).list ∙ (λ i. (c.self.view_is i).list)

pub returns-clause-closed : goal.returns-clause-closed
returns-clause-closed c =
    let alike = subst (λ (t : SegmentTable). CountAlike (number_at t.closed.numbers) (number_at c.args.numbers) t.list) (sym c.self.view_is) c.requires in
    (over-enter c.self.inside.front c.self.inside.base c.self.inside.numbers c.self.inside.all.list c.self.invariant c.args.numbers alike).closed
    ∙ (λ i. record (c.self.view_is i).closed { numbers = c.args.numbers })
