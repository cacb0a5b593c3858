use Rattle.std.proofs.Common.{subst, arith}
use Rattle.std.proofs.lemmas.List.{take_all}
use Rattle.entity_places.specs.Placed.{ArePlaced}
use Rattle.entity_places.proofs.PlaceLemmas.{more-placed}
use Rattle.trig_set.specs.Changes.{shift_is_of}
use Rattle.trig_set.proofs.changes.places_of.Goals as goal

pub loop-at-preserved : goal.loop-at-preserved
loop-at-preserved c =
    more-placed c.loop-at.places c.put.new.self shift_is_of c.args.shifts.now c.loop-at.at c.index-shifts-at.result c.loop-at-test.true c.in_ok-put.ensures c.loop-at.invariant

pub returns : goal.returns
returns c = subst (ArePlaced c.loop-at.places shift_is_of) (take_all c.loop-at.at c.args.shifts.now (omega arith)) c.loop-at.invariant
