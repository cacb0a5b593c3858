use Rattle.std.proofs.Common.{◌∙◌, sym}
use Rattle.cond_eval.proofs.NameLemmas.{none-shown, switch-on}
use Rattle.cond_eval.proofs.answers.shown_at.Goals as goal

pub loop-i-preserved : goal.loop-i-preserved
loop-i-preserved c =
    c.loop-i.invariant
    ∙ switch-on c.args.states.now c.args.numbers.now c.args.automations.now c.loop-i.i 0 c.args.number c.loop-i-test.true c.requires
    (sym c.is_number.ensures ∙ c.if-is_number.false)

pub returns : goal.returns
returns c = none-shown c.args.states.now c.args.numbers.now c.args.automations.now c.loop-i.i c.args.number c.loop-i-test.false ∙ sym c.loop-i.invariant
