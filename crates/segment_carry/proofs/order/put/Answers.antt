use Rattle.segment_carry.proofs.ByNameLemmas.{place-within, put-there}
use Rattle.segment_carry.proofs.order.put.Goals as goal

pub insert-requires : goal.insert-requires
insert-requires c = place-within c.args.names.now c.args.at c.args.order.now c.as_slice.result.now c.place_of-place.result c.as_slice.ensures c.place_of-place.ensures

pub returns : goal.returns
returns c = put-there c.args.names.now c.args.at c.args.order.now c.as_slice.result.now c.place_of-place.result c.as_slice.ensures c.place_of-place.ensures c.insert.new.self c.in_ok-insert.ensures.ok
