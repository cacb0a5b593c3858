use Rattle.std.proofs.Common.{◌≡◌, ◌∙◌, sym, ap, true, false, Some, None, inl, inr}
use Rattle.std.specs.Option.{option_map_or}
use Rattle.script_step.specs.declared.strand.Stage.{Stage}
use Rattle.script_step.specs.Sides.{all_over, halt_of, is_whole}
use Rattle.script_step.specs.Step.{thread_on}
use Rattle.script_step.proofs.ParallelLemmas.{over-stage}
use Rattle.script_step.proofs.WholeLemmas.{settled-ended, settled-sides}
use Rattle.script_step.specs.Gates.{fronts_on, gate_at}
use Rattle.script_step.proofs.StepTold.{ended-none}
use Rattle.script_step.proofs.sides.finished.Goals as goal

pub returns-in-Ready-clause-means : goal.returns-in-Ready-clause-means
returns-in-Ready-clause-means c = λ b began ps. (λ i. thread_on c.args.list.now c.args.thread.now (c.in-Ready.is i) b began ps) ∙ c.goes_on.ensures.means b began ps

pub returns-in-Some-clause-means : goal.returns-in-Some-clause-means
returns-in-Some-clause-means c = λ b began ps.
    let list = c.args.list.now in
    let t = c.args.thread.now in
    let xs = c.in-Sides.strands in
    let over : all_over xs ≡ true = ap all_over (sym c.as_slice.ensures) ∙ sym c.all_over.ensures ∙ c.if-all_over.true in
    let halt : halt_of xs ≡ Some c.in-Some.end = ap halt_of (sym c.as_slice-then-all_over.ensures) ∙ sym c.halt_of.ensures ∙ c.in-Some.is in
    (λ i. thread_on list t (c.in-Sides.is i) b began ps)
    ∙ over-stage list t xs over b began ps
    ∙ (λ i. option_map_or (λ e. thread_on list t (Stage.Ended e) b began ps) (halt i) (thread_on list t Stage.Ready b began ps))

pub returns-then-all_over-clause-means : goal.returns-then-all_over-clause-means
returns-then-all_over-clause-means c = λ b began ps.
    let list = c.args.list.now in
    let t = c.args.thread.now in
    let xs = c.in-Sides.strands in
    let over : all_over xs ≡ true = ap all_over (sym c.as_slice.ensures) ∙ sym c.all_over.ensures ∙ c.if-all_over.true in
    let halt : halt_of xs ≡ None = ap halt_of (sym c.as_slice-then-all_over.ensures) ∙ sym c.halt_of.ensures ∙ c.in-None.is in
    (λ i. thread_on list t (c.in-Sides.is i) b began ps)
    ∙ over-stage list t xs over b began ps
    ∙ (λ i. option_map_or (λ e. thread_on list t (Stage.Ended e) b began ps) (halt i) (thread_on list t Stage.Ready b began ps))
    ∙ c.goes_on-in-None.ensures.means b began ps

pub returns-in-Ready-clause-settled : goal.returns-in-Ready-clause-settled
returns-in-Ready-clause-settled c = λ whole. c.goes_on.ensures.settled

pub returns-in-Some-clause-settled : goal.returns-in-Some-clause-settled
returns-in-Some-clause-settled c = λ whole. settled-ended c.args.list.now c.args.thread.now c.in-Some.end

pub returns-then-all_over-clause-settled : goal.returns-then-all_over-clause-settled
returns-then-all_over-clause-settled c = λ whole. c.goes_on-in-None.ensures.settled

pub returns-in-Sides-clause-settled : goal.returns-in-Sides-clause-settled
returns-in-Sides-clause-settled c = λ whole.
    let list = c.args.list.now in
    let t = c.args.thread.now in
    let xs = c.in-Sides.strands in
    let over : all_over xs ≡ false = ap all_over (sym c.as_slice.ensures) ∙ sym c.all_over.ensures ∙ c.if-all_over.false in
    settled-sides list t xs ((λ i. is_whole (sym c.in-Sides.is i) list t) ∙ whole) over

pub returns-in-Ready-clause-told : goal.returns-in-Ready-clause-told
returns-in-Ready-clause-told c = λ began b g e. inl (c.goes_on.ensures.free began b g e)

pub returns-in-Some-clause-told : goal.returns-in-Some-clause-told
returns-in-Some-clause-told c = λ began b g e. absurd (ended-none c.in-Some.end c.args.list.now c.args.thread.now began b g e)

pub returns-then-all_over-clause-told : goal.returns-then-all_over-clause-told
returns-then-all_over-clause-told c = λ began b g e. inl (c.goes_on-in-None.ensures.free began b g e)

pub returns-in-Sides-clause-told : goal.returns-in-Sides-clause-told
returns-in-Sides-clause-told c = λ began b g e. inr ((λ i. gate_at b (fronts_on (c.in-Sides.is i) c.args.list.now c.args.thread.now began)) ∙ e)
