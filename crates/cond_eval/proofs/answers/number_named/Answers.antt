use Rattle.std.proofs.Common.{◌∙◌, sym}
use Rattle.cond_eval.proofs.NameLemmas.{named-on, none-named}
use Rattle.cond_eval.proofs.answers.number_named.Goals as goal

pub loop-i-preserved : goal.loop-i-preserved
loop-i-preserved c =
    c.loop-i.invariant
    ∙ named-on c.args.numbers.now c.args.automations.now c.loop-i.i c.index-automations-i.result c.args.name.now c.loop-i-test.true c.requires c.index-automations-i.is
    (sym c.is_named.ensures ∙ c.if-is_named.false)

pub returns : goal.returns
returns c = none-named c.args.numbers.now c.args.automations.now c.loop-i.i c.args.name.now c.loop-i-test.false ∙ sym c.loop-i.invariant
