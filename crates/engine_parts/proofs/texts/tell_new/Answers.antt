use Rattle.std.proofs.Common.{◌∙◌, sym}
use Rattle.trig_set.proofs.OnLemmas.{on-two}
use Rattle.engine_parts.proofs.TextLemmas.{listed-placed, told-again, told-more}
use Rattle.engine_parts.proofs.texts.tell_new.Goals as goal

pub returns-then-is_placed : goal.returns-then-is_placed
returns-then-is_placed c old front h placed =
    told-again c.args.now old front c.args.change.now c.args.states.now c.args.before.now h
    (listed-placed c.args.now old front c.args.change.now c.args.states.now c.args.before.now h c.args.places.now placed ∙ sym c.is_placed.ensures ∙ c.if-is_placed.true)

pub returns : goal.returns
returns c =
    on-two _ _ _ c.tell.result
    (λ changes more old front h placed.
    told-more c.args.now old front c.args.change.now c.args.states.now c.args.before.now h
    (listed-placed c.args.now old front c.args.change.now c.args.states.now c.args.before.now h c.args.places.now placed ∙ sym c.is_placed.ensures ∙ c.if-is_placed.false)
    c.tell.new.states c.tell.new.before changes more)
    c.tell.ensures.changes c.tell.ensures.listed
