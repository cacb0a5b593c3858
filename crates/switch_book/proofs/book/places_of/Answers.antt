use Rattle.std.proofs.Common.{◌≡◌, ◌∙◌, true, subst, sym, List, ℕ}
use Rattle.switch_book.specs.Book.{are_placed}
use Rattle.switch_book.proofs.book.places_of.Goals as goal

pub returns : goal.returns
returns c = subst (λ (ps : List ℕ). are_placed ps 0 c.args.switches.now ≡ true) c.as_slice.ensures.value (sym c.are_placed.ensures ∙ c.if-not-are_placed.false)
