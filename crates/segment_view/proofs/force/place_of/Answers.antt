use Rattle.std.proofs.Common.{◌∙◌, sym}
use Rattle.std.specs.Prelude.{slice_get}
use Rattle.segment_view.proofs.ViewLemmas.{stands-there}
use Rattle.segment_view.proofs.force.place_of.Goals as goal

pub returns-then-stands_at : goal.returns-then-stands_at
returns-then-stands_at c = stands-there (slice_get c.args.numbers.now c.args.number) c.args.number (sym c.stands_at.ensures ∙ c.if-stands_at.true)

pub returns : goal.returns
returns c = c.first_place.ensures
