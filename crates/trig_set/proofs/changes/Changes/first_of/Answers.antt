use Rattle.std.proofs.Common.{◌∙◌, ap}
use Rattle.std.specs.Prelude.{find, option_and_then, slice_get}
use Rattle.trig_set.specs.Changes.{shift_is_of}
use Rattle.trig_set.proofs.TabledLemmas.{tabled-found}
use Rattle.trig_set.proofs.changes.Changes.first_of.Goals as goal

pub returns-in-Some : goal.returns-in-Some
returns-in-Some c =
    c.shift_at.ensures
    ∙ ap (option_and_then (slice_get c.self.inside.list.now)) c.place_of.ensures
    ∙ tabled-found c.self.inside.places _ shift_is_of c.self.inside.list.now c.self.invariant c.in-Some.is c.args.entity.now
    ∙ ap (find (shift_is_of c.args.entity.now)) c.self.view_is
