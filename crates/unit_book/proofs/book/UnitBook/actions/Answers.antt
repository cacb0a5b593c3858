use Rattle.std.proofs.Common.{◌∙◌, sym}
use Rattle.std.specs.Prelude.{slice_get}
use Rattle.unit_book.proofs.BookLemmas.{actions-at}
use Rattle.unit_book.proofs.book.UnitBook.actions.Goals as goal

pub returns-in-Some : goal.returns-in-Some
returns-in-Some c f h =
    c.actions_by.ensures
    ∙ actions-at c.args.journal.now c.args.self.now.origins.items f.units c.args.unit _ h.units_are ((λ i. slice_get (sym c.as_slice.ensures.value i) c.args.unit) ∙ sym c.origin_of.ensures ∙ c.in-Some.is)

pub returns-in-None : goal.returns-in-None
returns-in-None c f h =
    actions-at c.args.journal.now c.args.self.now.origins.items f.units c.args.unit _ h.units_are ((λ i. slice_get (sym c.as_slice.ensures.value i) c.args.unit) ∙ sym c.origin_of.ensures ∙ c.in-None.is)
