use Rattle.std.proofs.Common.{◌∙◌, ap}
use Rattle.std.specs.Prelude.{Some, find, option_and_then, slice_get}
use Rattle.ha_journal.specs.Helpers.{is_of}
use Rattle.trig_set.specs.Tabled.{event_is_of}
use Rattle.trig_set.proofs.TabledLemmas.{tabled-found}
use Rattle.trig_set.proofs.events.Events.first_of.Goals as goal

pub returns-in-Some : goal.returns-in-Some
returns-in-Some c =
    c.event_at.ensures
    ∙ ap (option_and_then (slice_get c.self.inside.list.now)) c.place_of.ensures
    ∙ tabled-found c.self.inside.places _ event_is_of c.self.inside.list.now c.self.invariant c.in-Some.is c.args.entity.now
    ∙ ap (find (is_of (Some c.args.entity.now))) c.self.view_is
