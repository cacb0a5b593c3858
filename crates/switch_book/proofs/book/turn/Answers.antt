use Rattle.std.proofs.Common.{◌∙◌, sym}
use Rattle.switch_book.proofs.PlaceLemmas.{turned-at, turned-missing}
use Rattle.switch_book.proofs.book.turn.Goals as goal

pub returns-in-Some : goal.returns-in-Some
returns-in-Some c =
    turned-at c.args.places.now c.args.number c.args.on c.args.switches.now.items c.turn_there.new.switches.items c.in-Some.place c.requires (sym c.place_at.ensures ∙ c.in-Some.is) c.turn_there.ensures.past c.turn_there.ensures.within

pub returns-in-None : goal.returns-in-None
returns-in-None c = turned-missing c.args.places.now c.args.number c.args.on c.args.switches.now.items c.requires (sym c.place_at.ensures ∙ c.in-None.is)
