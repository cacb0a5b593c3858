use Rattle.std.proofs.Common.{get_or}
use Rattle.trig_set.specs.Order.{owner_of}
use Rattle.trig_set.proofs.SpotLemmas.{get-at, map-set}
use Rattle.trig_set.proofs.opening.open_owner_at.Goals as goal

pub returns-clause-owners : goal.returns-clause-owners
returns-clause-owners g c =
    map-set owner_of c.args.owners.now c.args.place c.open_owner.new.attached (get_or c.args.owners.now c.args.place c.index-owners-place.result)
    (get-at c.args.owners.now c.args.place c.index-owners-place.result c.requires) c.open_owner.ensures.same
