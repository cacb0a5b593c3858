use Rattle.std.proofs.Common.{◌∙◌, ◌++◌, [], append-nil, sym}
use Rattle.std.specs.Option.{option_map_or}
use Rattle.ha_past.specs.Firings.{Owner}
use Rattle.trig_set.specs.Timed.{firings_in}
use Rattle.trig_set.proofs.OwnersLemmas.{get-beyond}
use Rattle.trig_set.proofs.many_spots.collect_there.Goals as goal

pub returns-else-place-spots-clause-fired : goal.returns-else-place-spots-clause-fired
returns-else-place-spots-clause-fired c =
    let o : Owner = record { owner = c.args.owner; triggers = c.args.triggers.now; since = c.args.since } in
    sym ((λ i. c.args.fired.now ++ option_map_or (firings_in o c.args.scene.now.place c.args.scene.now.events.now) (get-beyond c.args.spots.now c.args.place c.if-place-spots.false i) []) ∙ append-nil c.args.fired.now)
