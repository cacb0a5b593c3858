use Rattle.std.proofs.Common.{◌∙◌, ap, sym, subst, arith, length}
use Rattle.run_modes.specs.Table.{called_on}
use Rattle.segment_runs.specs.Segment.{StandsOver, closed_in, own_in}
use Rattle.segment_runs.proofs.OverLemmas.{MayCall, over-called, over-may-call, over-serial}
use Rattle.segment_runs.proofs.segment.SegmentRuns.called.Goals as goal

pub all_serial-whole-requires : goal.all_serial-whole-requires
all_serial-whole-requires c =
    let h = subst (λ t. MayCall t.list c.args.serial) (sym c.self.view_is) c.requires in
    let within = (over-serial c.self.inside.front c.self.inside.base c.self.inside.numbers c.self.inside.all.list c.self.invariant c.args.serial h.0 h.1 h.2).1 in
    omega (arith, within, ap length c.list.ensures)

pub called-requires : goal.called-requires
called-requires c =
    let h = subst (λ t. MayCall t.list c.args.serial) (sym c.self.view_is) c.requires in
    subst (MayCall c.self.inside.all.list) (sym c.all_serial-whole.ensures) (over-may-call c.self.inside.front c.self.inside.base c.self.inside.numbers c.self.inside.all.list c.self.invariant c.args.serial h)

pub invariant_of-self : goal.invariant_of-self
invariant_of-self c =
    let h = subst (λ t. MayCall t.list c.args.serial) (sym c.self.view_is) c.requires in
    let more = (over-serial c.self.inside.front c.self.inside.base c.self.inside.numbers c.self.inside.all.list c.self.invariant c.args.serial h.0 h.1 h.2).0 in
    let e = c.called.ensures.list ∙ (λ i. called_on (c.all_serial-whole.ensures i) c.self.inside.all.list) in
    subst (StandsOver c.self.inside.front c.self.inside.base c.self.inside.numbers) (sym e) (over-called c.self.inside.front c.self.inside.base c.self.inside.numbers c.self.inside.all.list c.self.invariant c.args.serial more).over

pub returns-clause-list : goal.returns-clause-list
returns-clause-list c =
    let h = subst (λ t. MayCall t.list c.args.serial) (sym c.self.view_is) c.requires in
    let more = (over-serial c.self.inside.front c.self.inside.base c.self.inside.numbers c.self.inside.all.list c.self.invariant c.args.serial h.0 h.1 h.2).0 in
    let e = c.called.ensures.list ∙ (λ i. called_on (c.all_serial-whole.ensures i) c.self.inside.all.list) in
    ap (own_in c.self.inside.front c.self.inside.base c.self.inside.numbers) e
    ∙ (over-called c.self.inside.front c.self.inside.base c.self.inside.numbers c.self.inside.all.list c.self.invariant c.args.serial more).list
    ∙ (λ i. called_on c.args.serial (c.self.view_is i).list)

pub returns-clause-closed : goal.returns-clause-closed
returns-clause-closed c =
    let h = subst (λ t. MayCall t.list c.args.serial) (sym c.self.view_is) c.requires in
    let more = (over-serial c.self.inside.front c.self.inside.base c.self.inside.numbers c.self.inside.all.list c.self.invariant c.args.serial h.0 h.1 h.2).0 in
    let e = c.called.ensures.list ∙ (λ i. called_on (c.all_serial-whole.ensures i) c.self.inside.all.list) in
    ap (closed_in c.self.inside.front c.self.inside.base c.self.inside.numbers) e
    ∙ (over-called c.self.inside.front c.self.inside.base c.self.inside.numbers c.self.inside.all.list c.self.invariant c.args.serial more).closed
    ∙ (λ i. (c.self.view_is i).closed)

pub returns-clause-spare : goal.returns-clause-spare
returns-clause-spare c = c.called.ensures.spare ∙ (λ i. (c.self.view_is i).spare)
