use Rattle.entity_places.proofs.PlaceLemmas.{more-placed}
use Rattle.helper_set.specs.Listed.{kept_is_of}
use Rattle.helper_set.proofs.list.all_places.Goals as goal

pub loop-i-preserved : goal.loop-i-preserved
loop-i-preserved c =
    more-placed c.loop-i.places c.put.new.self kept_is_of c.args.list.now c.loop-i.i c.index-list-i.result c.loop-i-test.true c.in_ok-put.ensures c.loop-i.invariant
