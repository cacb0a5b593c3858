use Rattle.std.proofs.Common.{◌∙◌, ap}
use Rattle.ha_whole.specs.Whole.{is_rested}
use Rattle.bus_turn.specs.Shown.{BusView}
use Rattle.bus_turn.proofs.bus.Bus.rested.Goals as goal

pub returns : goal.returns
returns g c = c.rested.ensures ∙ ap (λ (v : BusView). is_rested v.records c.args.source v.journal) c.self.view_is
