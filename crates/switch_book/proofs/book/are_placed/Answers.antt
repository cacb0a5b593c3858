use Rattle.std.proofs.Common.{◌∙◌, refl, sym}
use Rattle.switch_book.proofs.PlaceLemmas.{placed-end, placed-next, placed-not}
use Rattle.switch_book.proofs.book.are_placed.Goals as goal

pub switches-init : goal.switches-init
switches-init c = refl

pub switches-preserved : goal.switches-preserved
switches-preserved c =
    placed-next c.args.places.now c.args.switches.now c.switches.at c.index-switches-at.result c.switches-test.true c.index-switches-at.is (sym c.stands_at.ensures ∙ c.if-not-stands_at.false) ∙ c.switches.invariant

pub returns-then-not-stands_at : goal.returns-then-not-stands_at
returns-then-not-stands_at c =
    placed-not c.args.places.now c.args.switches.now c.switches.at c.index-switches-at.result c.switches-test.true c.index-switches-at.is (sym c.stands_at.ensures ∙ c.if-not-stands_at.true) ∙ c.switches.invariant

pub returns : goal.returns
returns c = placed-end c.args.places.now c.args.switches.now c.switches.at c.switches-test.false ∙ c.switches.invariant
