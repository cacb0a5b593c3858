use Rattle.std.proofs.Common.{◌∙◌, sym}
use Rattle.script_step.specs.Continuation.{may_step}
use Rattle.script_step.proofs.StepLemmas.{may-at-side, may-at-none}
use Rattle.script_step.proofs.gates.+may_step.Goals as goal

pub returns-in-Some-get : goal.returns-in-Some-get
returns-in-Some-get t c = λ end over.
    c.may_step.ensures end over
    ∙ (λ i. may_step c.in-Some-get.side.now (c.side_list.ensures i) c.in-Some.rest.now c.args.now end)
    ∙ sym (may-at-side c.args.strand.now c.args.list.now c.args.path.now c.in-Some.rest.now c.in-Some.first.now c.in-Sides.strands c.in-Sides.is c.in-Some.ensures.cases.0
    c.in-Some-get.side.now (sym c.in-Some-get.ensures.value) c.args.now end)

pub returns-in-None-get : goal.returns-in-None-get
returns-in-None-get t c = λ end over.
    sym (may-at-none c.args.strand.now c.args.list.now c.args.path.now c.in-Some.rest.now c.in-Some.first.now c.in-Sides.strands c.in-Sides.is c.in-Some.ensures.cases.0
    (sym c.in-None-get.ensures.value) c.args.now end)
