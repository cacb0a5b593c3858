use Rattle.std.proofs.Common.{◌∙◌, subst, arith}
use Rattle.std.proofs.lemmas.List.{take_all}
use Rattle.entity_places.specs.Placed.{ArePlaced, place_in, place_or}
use Rattle.entity_places.proofs.PlaceLemmas.{more-placed}
use Rattle.trig_set.specs.Tabled.{event_is_of}
use Rattle.trig_set.proofs.events.places_of.Goals as goal

pub loop-at-preserved : goal.loop-at-preserved
loop-at-preserved c =
    more-placed c.loop-at.places c.put_event.new.places event_is_of c.args.events.now c.loop-at.at c.index-events-at.result c.loop-at-test.true
    (λ e. c.in_ok-put_event.ensures e ∙ (λ i. place_or c.loop-at.at (event_is_of e (c.index-events-at.is i)) (place_in c.loop-at.places e)))
    c.loop-at.invariant

pub returns : goal.returns
returns c = subst (ArePlaced c.loop-at.places event_is_of) (take_all c.loop-at.at c.args.events.now (omega arith)) c.loop-at.invariant
