-- What has its place in a table, where there is one.
use Rattle.std.specs.Prelude.{Bool, List, MatchOption, Option, Some}
use Rattle.ha_value.specs.declared.value.EntityId.{EntityId}
use Rattle.ha_journal.specs.declared.event.BusEvent.{BusEvent}
use Rattle.ha_journal.specs.Helpers.{is_of}
use Rattle.entity_places.specs.declared.places.Places.{Places}
use Rattle.entity_places.specs.Placed.{ArePlaced}

-- the event is of the entity
abbrev pub event_is_of : EntityId → BusEvent → Bool
event_is_of e v = is_of (Some e) v

-- the table, if there is one, has the first of each entity
abbrev pub AreTabled : {X : Type 0} → Option Places → (EntityId → X → Bool) → List X → Type 0
AreTabled places is_of xs = MatchOption places (Unit {0}) (λ p. ArePlaced p is_of xs)
