use Rattle.std.proofs.Common.{◌∙◌, sym}
use Rattle.script_calls.proofs.ResolveLemmas.{item-none, item-own}
use Rattle.script_calls.proofs.services.own_item.Goals as goal

pub returns : goal.returns
returns c =
    c.in_ok-item.ensures
    ∙ item-own c.args.numbers.now c.args.scripts.now c.args.service.now c.args.target.now c.args.fields.now c.requires (sym c.is_empty.ensures ∙ c.if-is_empty.false)

pub returns-then-is_empty : goal.returns-then-is_empty
returns-then-is_empty c = item-none c.args.numbers.now c.args.scripts.now c.args.service.now c.args.target.now c.args.fields.now (sym c.is_empty.ensures ∙ c.if-is_empty.true)
