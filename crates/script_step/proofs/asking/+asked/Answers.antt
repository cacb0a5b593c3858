use Rattle.std.proofs.Common.{◌∙◌, sym, ap}
use Rattle.std.specs.Prelude.{option_map}
use Rattle.script_step.specs.Continuation.{asks}
use Rattle.script_step.specs.Frames.{asked_by}
use Rattle.script_step.proofs.IfLemmas.{if_ok}
use Rattle.script_step.proofs.StepLemmas.{ask-at-side, ask-at-none}
use Rattle.script_step.proofs.asking.+asked.Goals as goal

pub returns-in-Some-get : goal.returns-in-Some-get
returns-in-Some-get t c =
    if_ok c.asked.result (λ made e. e ∙ ap (option_map (asked_by c.args.serial c.args.branch.now c.args.now))
    ((λ i. asks c.in-Some-get.side.now (c.side_list.ensures i) c.in-Some.rest.now)
    ∙ sym (ask-at-side c.args.strand.now c.args.list.now c.args.path.now c.in-Some.rest.now c.in-Some.first.now c.in-Sides.strands c.in-Sides.is c.in-Some.ensures.cases.0
    c.in-Some-get.side.now (sym c.in-Some-get.ensures.value)))) c.asked.ensures

pub returns-in-None-get : goal.returns-in-None-get
returns-in-None-get t c =
    sym (ap (option_map (asked_by c.args.serial c.args.branch.now c.args.now))
    (ask-at-none c.args.strand.now c.args.list.now c.args.path.now c.in-Some.rest.now c.in-Some.first.now c.in-Sides.strands c.in-Sides.is c.in-Some.ensures.cases.0
    (sym c.in-None-get.ensures.value)))
