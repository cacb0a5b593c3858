use Rattle.std.proofs.Common.{◌∙◌, sym}
use Rattle.unit_book.proofs.StepLemmas.{known-here}
use Rattle.unit_book.proofs.grown.first_at.Goals as goal

pub returns-in-Some : goal.returns-in-Some
returns-in-Some c = known-here c.args.known.now c.args.names.now c.args.at c.in-Some.first c.args.name.now c.requires.known (sym c.known_at.ensures ∙ c.in-Some.is) c.requires.name
