use Rattle.std.proofs.Common.{◌∙◌, ap}
use Rattle.std.specs.Prelude.{Some, is_some}
use Rattle.std.specs.List.{list_any}
use Rattle.ha_journal.specs.Helpers.{is_of}
use Rattle.trig_set.specs.Tabled.{event_is_of}
use Rattle.trig_set.proofs.TabledLemmas.{tabled-has}
use Rattle.trig_set.proofs.events.Events.has.Goals as goal

pub returns-in-Some : goal.returns-in-Some
returns-in-Some c =
    c.is_some.ensures
    ∙ ap is_some c.place_of.ensures
    ∙ tabled-has c.self.inside.places _ event_is_of c.self.inside.list.now c.self.invariant c.in-Some.is c.args.entity.now
    ∙ ap (list_any (is_of (Some c.args.entity.now))) c.self.view_is
