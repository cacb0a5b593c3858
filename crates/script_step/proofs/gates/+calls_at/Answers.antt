use Rattle.std.proofs.Common.{◌∙◌, ap, false, sym}
use Rattle.std.specs.Prelude.{Option}
use Rattle.std.specs.Option.{option_map_or}
use Rattle.ha_sight.specs.Scripts.{Ask}
use Rattle.script_step.specs.Continuation.{asks}
use Rattle.script_step.proofs.StepLemmas.{ask-at-side, ask-at-none}
use Rattle.script_step.proofs.gates.+calls_at.Goals as goal

pub returns-in-Some-get : goal.returns-in-Some-get
returns-in-Some-get t c =
    c.calls_at.ensures
    ∙ ap (λ (o : Option Ask). option_map_or (λ ask. ask.called) o false)
    ((λ i. asks c.in-Some-get.side.now (c.side_list.ensures i) c.in-Some.rest.now)
    ∙ sym (ask-at-side c.args.strand.now c.args.list.now c.args.path.now c.in-Some.rest.now c.in-Some.first.now c.in-Sides.strands c.in-Sides.is c.in-Some.ensures.cases.0
    c.in-Some-get.side.now (sym c.in-Some-get.ensures.value)))

pub returns-in-None-get : goal.returns-in-None-get
returns-in-None-get t c =
    sym (ap (λ (o : Option Ask). option_map_or (λ ask. ask.called) o false)
    (ask-at-none c.args.strand.now c.args.list.now c.args.path.now c.in-Some.rest.now c.in-Some.first.now c.in-Sides.strands c.in-Sides.is c.in-Some.ensures.cases.0
    (sym c.in-None-get.ensures.value)))
