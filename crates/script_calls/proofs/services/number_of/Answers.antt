use Rattle.std.proofs.Common.{◌∙◌, sym}
use Rattle.script_calls.proofs.ResolveLemmas.{named-on, none-left}
use Rattle.script_calls.proofs.services.number_of.Goals as goal

pub loop-i-preserved : goal.loop-i-preserved
loop-i-preserved c =
    c.loop-i.invariant
    ∙ named-on c.args.numbers.now c.args.scripts.now c.loop-i.i c.index-scripts-i.result c.args.name.now c.loop-i-test.true c.requires c.index-scripts-i.is
    (sym c.has_name.ensures ∙ c.if-has_name.false)

pub returns : goal.returns
returns c = none-left c.args.numbers.now c.args.scripts.now c.loop-i.i c.args.name.now c.loop-i-test.false ∙ sym c.loop-i.invariant
