use Rattle.std.proofs.Common.{◌∙◌, sym}
use Rattle.trig_set.proofs.OnLemmas.{on-two}
use Rattle.engine_parts.proofs.TextLemmas.{told-again, told-more}
use Rattle.engine_parts.proofs.texts.tell_first.Goals as goal

pub returns-then-lists : goal.returns-then-lists
returns-then-lists c old front h = told-again c.args.now old front c.args.change.now c.args.states.now c.args.before.now h (sym c.lists.ensures ∙ c.if-lists.true)

pub returns : goal.returns
returns c =
    on-two _ _ _ c.tell.result
    (λ changes more old front h.
    told-more c.args.now old front c.args.change.now c.args.states.now c.args.before.now h (sym c.lists.ensures ∙ c.if-lists.false) c.tell.new.states c.tell.new.before changes more)
    c.tell.ensures.changes c.tell.ensures.listed
