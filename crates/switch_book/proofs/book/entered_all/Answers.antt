use Rattle.std.proofs.Common.{◌∙◌, ◌++◌, [], ◌∷◌, arith}
use Rattle.switch_book.proofs.BookLemmas.{entered-done, entered-more, number-there}
use Rattle.switch_book.proofs.book.entered_all.Goals as goal

pub number_at-number-requires : goal.number_at-number-requires
number_at-number-requires c = omega (arith, c.automations-test.true, c.requires.numbered)

pub automations-preserved : goal.automations-preserved
automations-preserved c =
    entered-more c.args.switches.now c.args.numbers.now c.args.automations.now c.automations.at c.number_at-number.result c.index-automations-at.result c.automations.made.items _
    c.automations-test.true c.requires.numbered
    (number-there c.args.numbers.now c.automations.at c.number_at-number.result (omega (arith, c.automations-test.true, c.requires.numbered)) c.number_at-number.ensures)
    c.index-automations-at.is c.automations.invariant
    (c.in_ok-push.ensures.items ∙ (λ i. c.automations.made.items ++ ((c.number_at-number.result, c.in_ok-name.ensures i, c.entered-on.ensures i) ∷ [])))

pub returns : goal.returns
returns c = entered-done c.args.switches.now c.args.numbers.now c.args.automations.now c.automations.at c.automations.made.items c.automations-test.false c.automations.invariant
