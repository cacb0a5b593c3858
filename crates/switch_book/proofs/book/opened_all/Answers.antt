use Rattle.std.proofs.Common.{◌∙◌, ◌++◌, [], ◌∷◌}
use Rattle.std.specs.Option.{option_copied}
use Rattle.switch_book.proofs.BookLemmas.{opened-done, opened-more}
use Rattle.switch_book.proofs.book.opened_all.Goals as goal

pub automations-preserved : goal.automations-preserved
automations-preserved c =
    opened-more (option_copied c.args.stored) c.args.automations.now c.automations.at c.index-automations-at.result c.automations.switches.items _ c.automations-test.true c.index-automations-at.is c.automations.invariant
    (c.in_ok-push.ensures.items ∙ (λ i. c.automations.switches.items ++ ((c.automations.at, c.in_ok-name.ensures i, c.opened-on.ensures i) ∷ [])))

pub returns : goal.returns
returns c = opened-done (option_copied c.args.stored) c.args.automations.now c.automations.at c.automations.switches.items c.automations-test.false c.automations.invariant
