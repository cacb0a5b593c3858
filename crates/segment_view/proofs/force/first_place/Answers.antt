use Rattle.std.proofs.Common.{◌∙◌, refl, sym}
use Rattle.std.specs.Prelude.{slice_get}
use Rattle.segment_view.proofs.ViewLemmas.{any-next, any-past, stands-there}
use Rattle.segment_view.proofs.force.first_place.Goals as goal

pub numbers-init : goal.numbers-init
numbers-init c = refl

pub numbers-preserved : goal.numbers-preserved
numbers-preserved c = any-next c.args.numbers.now c.numbers.at c.args.number c.numbers-test.true (sym c.stands_at.ensures ∙ c.if-stands_at.false) ∙ c.numbers.invariant

pub returns-then-stands_at : goal.returns-then-stands_at
returns-then-stands_at c = stands-there (slice_get c.args.numbers.now c.numbers.at) c.args.number (sym c.stands_at.ensures ∙ c.if-stands_at.true)

pub returns : goal.returns
returns c = sym c.numbers.invariant ∙ any-past c.args.numbers.now c.numbers.at c.args.number c.numbers-test.false
