use Rattle.std.proofs.Common.{◌∙◌, ap, sym}
use Rattle.switch_book.specs.Book.{is_place}
use Rattle.switch_book.proofs.book.stands_at.Goals as goal

pub returns-in-Some : goal.returns-in-Some
returns-in-Some c = c.is_place.ensures ∙ ap (is_place c.args.at) (sym c.in-Some.is ∙ c.place_at.ensures)

pub returns-in-None : goal.returns-in-None
returns-in-None c = ap (is_place c.args.at) (sym c.in-None.is ∙ c.place_at.ensures)
