use Rattle.std.proofs.Common.{◌≡◌, ◌∙◌, ap, rules}
use Rattle.ha_whole.specs.Whole.{is_rested}
use Rattle.bus_turn.specs.Shown.{BusView}
use Rattle.bus_pass.proofs.held.Held.rested.Goals as goal

pub returns : goal.returns
returns g c =
    let same : c.as_ref.result.now ≡ c.args.self.now = search rules in
    c.rested.ensures ∙ ap (λ (b : BusView). is_rested b.records c.args.source b.journal) same
