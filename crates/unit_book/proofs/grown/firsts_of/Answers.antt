use Rattle.std.proofs.Common.{◌∙◌, ap, sym}
use Rattle.std.specs.Prelude.{Some}
use Rattle.std.proofs.lemmas.Option.{slice_get-get_or}
use Rattle.unit_book.specs.Book.{first_from}
use Rattle.unit_book.proofs.StepLemmas.{made-done, made-more}
use Rattle.unit_book.proofs.grown.firsts_of.Goals as goal

pub first_at-first-requires-clause-name : goal.first_at-first-requires-clause-name
first_at-first-requires-clause-name c = slice_get-get_or c.args.names.now c.names.at c.index-names-at.result c.names-test.true ∙ ap Some (sym c.index-names-at.is)

pub names-preserved : goal.names-preserved
names-preserved c =
    made-more (λ name. first_from 0 name c.args.names.now) c.args.names.now c.names.at c.index-names-at.result _ _ _ c.names-test.true c.names.invariant
    (c.first_at-first.ensures ∙ ap (λ name. first_from 0 name c.args.names.now) c.index-names-at.is) c.in_ok-push.ensures.items

pub returns : goal.returns
returns c = made-done (λ name. first_from 0 name c.args.names.now) c.args.names.now c.names.at _ c.names-test.false c.names.invariant
