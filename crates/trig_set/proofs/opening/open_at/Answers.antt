use Rattle.std.proofs.Common.{get_or, ap}
use Rattle.trig_set.specs.Kept.{due_in, place_of}
use Rattle.trig_set.proofs.OnLemmas.{on-then}
use Rattle.trig_set.proofs.SpotLemmas.{get-at, map-set, timed-same}
use Rattle.trig_set.proofs.opening.open_at.Goals as goal

pub returns-clause-places : goal.returns-clause-places
returns-clause-places g c =
    on-then _ _ c.open_seen.result (λ e. map-set place_of c.args.spots.now c.args.place c.open_seen.new.spot (get_or c.args.spots.now c.args.place c.index-spots-place-2.result) (get-at c.args.spots.now c.args.place c.index-spots-place-2.result c.requires) (ap place_of e)) c.open_seen.ensures.rest

pub returns-clause-timed : goal.returns-clause-timed
returns-clause-timed g c =
    on-then _ _ c.open_seen.result (λ e timers. timed-same timers c.args.spots.now c.args.place c.open_seen.new.spot (get_or c.args.spots.now c.args.place c.index-spots-place-2.result) c.requires (get-at c.args.spots.now c.args.place c.index-spots-place-2.result c.requires) (ap due_in e)) c.open_seen.ensures.rest
