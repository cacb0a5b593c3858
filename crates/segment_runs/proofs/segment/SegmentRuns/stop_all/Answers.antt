use Rattle.std.proofs.Common.{◌∙◌, ap, sym, subst, arith}
use Rattle.run_modes.specs.Table.{stopped}
use Rattle.segment_runs.specs.Segment.{StandsOver, closed_in, own_in}
use Rattle.segment_runs.proofs.OverLemmas.{over-stopped}
use Rattle.segment_runs.proofs.segment.SegmentRuns.stop_all.Goals as goal

pub overflow_add-at : goal.overflow_add-at
overflow_add-at c = omega (arith, c.self.invariant.most, c.requires)

pub invariant_of-self : goal.invariant_of-self
invariant_of-self c =
    subst (StandsOver c.self.inside.front c.self.inside.base c.self.inside.numbers) (sym c.stop_all.ensures.list)
    (over-stopped c.self.inside.front c.self.inside.base c.self.inside.numbers c.self.inside.all.list c.self.invariant c.args.automation c.args.place c.args.cause).over

pub returns-clause-list : goal.returns-clause-list
returns-clause-list c =
    ap (own_in c.self.inside.front c.self.inside.base c.self.inside.numbers) c.stop_all.ensures.list
    ∙ (over-stopped c.self.inside.front c.self.inside.base c.self.inside.numbers c.self.inside.all.list c.self.invariant c.args.automation c.args.place c.args.cause).list
    ∙ (λ i. stopped c.args.automation c.args.place c.args.cause (c.self.view_is i).list)

pub returns-clause-closed : goal.returns-clause-closed
returns-clause-closed c =
    ap (closed_in c.self.inside.front c.self.inside.base c.self.inside.numbers) c.stop_all.ensures.list
    ∙ (over-stopped c.self.inside.front c.self.inside.base c.self.inside.numbers c.self.inside.all.list c.self.invariant c.args.automation c.args.place c.args.cause).closed
    ∙ (λ i. (c.self.view_is i).closed)

pub returns-clause-spare : goal.returns-clause-spare
returns-clause-spare c = rw (← c.self.view_is) c.stop_all.ensures.spare
