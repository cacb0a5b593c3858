use Rattle.std.proofs.Common.{◌∙◌, sym}
use Rattle.script_step.proofs.FrontLemmas.{due-at-side, due-at-none}
use Rattle.script_step.proofs.gates.+due_at.Goals as goal

pub returns-in-Some-get : goal.returns-in-Some-get
returns-in-Some-get t c =
    c.due_at.ensures
    ∙ sym (due-at-side c.args.strand.now c.args.path.now c.in-Some.rest.now c.in-Some.first.now c.in-Sides.strands c.in-Sides.is c.in-Some.ensures.cases.0
    c.in-Some-get.side.now (sym c.in-Some-get.ensures.value))

pub returns-in-None-get : goal.returns-in-None-get
returns-in-None-get t c =
    sym (due-at-none c.args.strand.now c.args.path.now c.in-Some.rest.now c.in-Some.first.now c.in-Sides.strands c.in-Sides.is c.in-Some.ensures.cases.0
    (sym c.in-None-get.ensures.value))
