use Rattle.std.proofs.Common.{◌∙◌, ap, sym}
use Rattle.segment_view.specs.Views.{stands}
use Rattle.segment_view.proofs.force.stands_at.Goals as goal

pub returns-in-Some : goal.returns-in-Some
returns-in-Some c = c.is_number.ensures ∙ ap (stands c.args.number) (sym c.in-Some.is ∙ c.slot_at.ensures)

pub returns-in-None : goal.returns-in-None
returns-in-None c = ap (stands c.args.number) (sym c.in-None.is ∙ c.slot_at.ensures)
