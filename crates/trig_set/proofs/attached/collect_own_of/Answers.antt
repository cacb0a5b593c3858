use Rattle.std.proofs.Common.{◌<◌, length, arith}
use Rattle.trig_set.proofs.CollectLemmas.{goes-spots, goes-found}
use Rattle.trig_set.specs.Kept.{firing_in, cleared}
use Rattle.trig_set.proofs.attached.collect_own_of.Goals as goal

pub loop-place-preserved : goal.loop-place-preserved
loop-place-preserved c =
    let lt : c.loop-place.place < length c.args.spots.now = omega arith in
    let d = c.index-spots-place.result in
    record {
      fired = goes-found (firing_in c.args.owner) cleared d c.args.spots.now c.loop-place.spots c.loop-place.place c.args.fired.now c.loop-place.fired c.collect_own.new.fired lt c.loop-place.invariant.spots c.loop-place.invariant.fired
          c.in_ok-collect_own.ensures.fired;
      spots = goes-spots cleared d c.args.spots.now c.loop-place.spots c.loop-place.place c.collect_own.new.spot lt c.loop-place.invariant.spots
          c.in_ok-collect_own.ensures.cleared;
    }
