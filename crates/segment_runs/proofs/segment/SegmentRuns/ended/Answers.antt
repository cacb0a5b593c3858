use Rattle.std.proofs.Common.{◌+◌, ◌-◌, ◌∙◌, ap, sym, subst, arith, length}
use Rattle.std.specs.Prelude.{option_map}
use Rattle.run_modes.specs.Table.{begun_by, ended_at}
use Rattle.segment_runs.specs.Segment.{StandsOver, closed_in, own_in}
use Rattle.segment_runs.proofs.OverLemmas.{MayEnd, over-begun, over-ended, over-may-end, over-serial}
use Rattle.segment_runs.proofs.segment.SegmentRuns.ended.Goals as goal

pub all_serial-whole-requires : goal.all_serial-whole-requires
all_serial-whole-requires c =
    let h = subst (λ t. MayEnd t.list c.args.serial) (sym c.self.view_is) c.requires.run in
    let within = (over-serial c.self.inside.front c.self.inside.base c.self.inside.numbers c.self.inside.all.list c.self.invariant c.args.serial h.0 h.1 h.2).1 in
    omega (arith, within, ap length c.list.ensures)

pub overflow_add-at : goal.overflow_add-at
overflow_add-at c = omega (arith, c.self.invariant.most, c.requires.place)

pub ended-next-requires : goal.ended-next-requires
ended-next-requires c =
    let h = subst (λ t. MayEnd t.list c.args.serial) (sym c.self.view_is) c.requires.run in
    subst (MayEnd c.self.inside.all.list) (sym c.all_serial-whole.ensures) (over-may-end c.self.inside.front c.self.inside.base c.self.inside.numbers c.self.inside.all.list c.self.invariant c.args.serial h)

pub invariant_of-self : goal.invariant_of-self
invariant_of-self c =
    let h = subst (λ t. MayEnd t.list c.args.serial) (sym c.self.view_is) c.requires.run in
    let more = (over-serial c.self.inside.front c.self.inside.base c.self.inside.numbers c.self.inside.all.list c.self.invariant c.args.serial h.0 h.1 h.2).0 in
    let e = c.ended-next.ensures.list ∙ (λ i. ended_at (c.all_serial-whole.ensures i) (c.self.inside.front + c.args.place) c.args.cause c.self.inside.all.list) in
    subst (StandsOver c.self.inside.front c.self.inside.base c.self.inside.numbers) (sym e) (over-ended c.self.inside.front c.self.inside.base c.self.inside.numbers c.self.inside.all.list c.self.invariant c.args.serial c.args.place c.args.cause more).over

pub returns-clause-list : goal.returns-clause-list
returns-clause-list c =
    let h = subst (λ t. MayEnd t.list c.args.serial) (sym c.self.view_is) c.requires.run in
    let more = (over-serial c.self.inside.front c.self.inside.base c.self.inside.numbers c.self.inside.all.list c.self.invariant c.args.serial h.0 h.1 h.2).0 in
    let e = c.ended-next.ensures.list ∙ (λ i. ended_at (c.all_serial-whole.ensures i) (c.self.inside.front + c.args.place) c.args.cause c.self.inside.all.list) in
    ap (own_in c.self.inside.front c.self.inside.base c.self.inside.numbers) e
    ∙ (over-ended c.self.inside.front c.self.inside.base c.self.inside.numbers c.self.inside.all.list c.self.invariant c.args.serial c.args.place c.args.cause more).list
    ∙ (λ i. ended_at c.args.serial c.args.place c.args.cause (c.self.view_is i).list)

pub returns-clause-closed : goal.returns-clause-closed
returns-clause-closed c =
    let h = subst (λ t. MayEnd t.list c.args.serial) (sym c.self.view_is) c.requires.run in
    let more = (over-serial c.self.inside.front c.self.inside.base c.self.inside.numbers c.self.inside.all.list c.self.invariant c.args.serial h.0 h.1 h.2).0 in
    let e = c.ended-next.ensures.list ∙ (λ i. ended_at (c.all_serial-whole.ensures i) (c.self.inside.front + c.args.place) c.args.cause c.self.inside.all.list) in
    ap (closed_in c.self.inside.front c.self.inside.base c.self.inside.numbers) e
    ∙ (over-ended c.self.inside.front c.self.inside.base c.self.inside.numbers c.self.inside.all.list c.self.invariant c.args.serial c.args.place c.args.cause more).closed
    ∙ (λ i. (c.self.view_is i).closed)

pub returns-clause-answer : goal.returns-clause-answer
returns-clause-answer c =
    let h = subst (λ t. MayEnd t.list c.args.serial) (sym c.self.view_is) c.requires.run in
    let more = (over-serial c.self.inside.front c.self.inside.base c.self.inside.numbers c.self.inside.all.list c.self.invariant c.args.serial h.0 h.1 h.2).0 in
    c.own_serial.ensures
    ∙ ap (option_map (λ q. q - c.self.inside.base)) (c.ended-next.ensures.answer ∙ (λ i. begun_by (c.all_serial-whole.ensures i) c.self.inside.all.list))
    ∙ over-begun c.self.inside.front c.self.inside.base c.self.inside.numbers c.self.inside.all.list c.self.invariant c.args.serial more
    ∙ (λ i. begun_by c.args.serial (c.self.view_is i).list)

pub returns-clause-spare : goal.returns-clause-spare
returns-clause-spare c = rw (← c.self.view_is) c.ended-next.ensures.spare
