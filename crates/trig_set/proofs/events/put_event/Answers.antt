use Rattle.entity_places.specs.Placed.{place_in}
use Rattle.trig_set.proofs.OnLemmas.{on-then}
use Rattle.trig_set.proofs.TabledLemmas.{event-of, event-of-none}
use Rattle.trig_set.proofs.events.put_event.Goals as goal

pub returns-in-Some : goal.returns-in-Some
returns-in-Some c =
    on-then _ _ c.put.result
    (λ put e. event-of c.args.event.now _ e c.args.place (place_in c.args.places.now e) (place_in c.put.new.self e) c.in-Some.is (put e))
    c.put.ensures

pub returns-in-None : goal.returns-in-None
returns-in-None c e = event-of-none c.args.event.now e c.args.place (place_in c.args.places.now e) c.in-None.is
