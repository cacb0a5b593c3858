use Rattle.std.proofs.Common.{◌∙◌, sym}
use Rattle.std.specs.Prelude.{slice_get}
use Rattle.unit_book.proofs.BookLemmas.{at-sound, number-at}
use Rattle.unit_book.proofs.book.UnitBook.unit.Goals as goal

pub returns-in-Some-clause-unit : goal.returns-in-Some-clause-unit
returns-in-Some-clause-unit c f h =
    c.unit_by.ensures.unit
    ∙ number-at c.args.journal.now c.args.self.now.origins.items f.units c.args.unit _ h.units_are ((λ i. slice_get (sym c.as_slice.ensures.value i) c.args.unit) ∙ sym c.origin_of.ensures ∙ c.in-Some.is)

pub returns-in-Some-clause-rule : goal.returns-in-Some-clause-rule
returns-in-Some-clause-rule c f h =
    c.unit_by.ensures.rule
    (at-sound c.args.journal.now c.args.self.now.origins.items f.units c.args.unit _ h.units_are ((λ i. slice_get (sym c.as_slice.ensures.value i) c.args.unit) ∙ sym c.origin_of.ensures ∙ c.in-Some.is))

pub returns-in-Some-clause-script : goal.returns-in-Some-clause-script
returns-in-Some-clause-script c f h =
    c.unit_by.ensures.script
    (at-sound c.args.journal.now c.args.self.now.origins.items f.units c.args.unit _ h.units_are ((λ i. slice_get (sym c.as_slice.ensures.value i) c.args.unit) ∙ sym c.origin_of.ensures ∙ c.in-Some.is))

pub returns-in-None-clause-unit : goal.returns-in-None-clause-unit
returns-in-None-clause-unit c f h =
    number-at c.args.journal.now c.args.self.now.origins.items f.units c.args.unit _ h.units_are ((λ i. slice_get (sym c.as_slice.ensures.value i) c.args.unit) ∙ sym c.origin_of.ensures ∙ c.in-None.is)
