use Rattle.tpl_eval.proofs.PlainLemmas.{plain-is}
use Rattle.tpl_eval.proofs.rendering.plain_text.Goals as goal

pub returns-in-Some : goal.returns-in-Some
returns-in-Some c = λ sight env.
    plain-is sight env c.args.template.now c.as_slice-pieces.result.now c.index-pieces-0.result c.in-Some.text.now c.as_slice-pieces.ensures
    c.if-pieces-ne1.false c.index-pieces-0.is c.in-Some.ensures.piece c.in-Some.ensures.short
