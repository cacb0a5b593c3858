use Rattle.std.proofs.Common.{◌∙◌, ap, sym}
use Rattle.std.specs.Prelude.{option_and_then}
use Rattle.switch_book.specs.Book.{on_there}
use Rattle.switch_book.proofs.PlaceLemmas.{on-place}
use Rattle.switch_book.proofs.book.on_at.Goals as goal

pub returns-in-Some : goal.returns-in-Some
returns-in-Some c =
    c.on_there.ensures ∙ ap (option_and_then (on_there c.args.switches.now c.args.number)) (sym c.in-Some.is ∙ c.place_at.ensures) ∙ on-place c.args.places.now c.args.number c.args.switches.now c.requires

pub returns-in-None : goal.returns-in-None
returns-in-None c = ap (option_and_then (on_there c.args.switches.now c.args.number)) (sym c.in-None.is ∙ c.place_at.ensures) ∙ on-place c.args.places.now c.args.number c.args.switches.now c.requires
