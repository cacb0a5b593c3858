-- What a table has of events and changes.
use Rattle.std.proofs.Common.{◌≡◌, ◌∙◌, ℕ, List, Bool, true, false, refl, sym, subst, Option}
use Rattle.std.specs.Prelude.{Some, None, find, is_some, option_and_then, slice_get}
use Rattle.std.specs.List.{list_any}
use Rattle.std.specs.Option.{option_map_or}
use Rattle.ha_value.specs.declared.value.EntityId.{EntityId}
use Rattle.ha_config.specs.Words.{same_entity}
use Rattle.ha_config.proofs.EqualLemmas.{entity-sound, entity-along}
use Rattle.ha_journal.specs.declared.event.BusEvent.{BusEvent}
use Rattle.entity_places.specs.declared.places.Places.{Places}
use Rattle.entity_places.specs.Placed.{place_in, place_or}
use Rattle.entity_places.proofs.PlaceLemmas.{placed-found, placed-has}
use Rattle.trig_set.specs.Tabled.{AreTabled, event_is_of}

-- whichever of the two ids is named first
pub same-turned : (a b : EntityId) → same_entity a b ≡ same_entity b a
same-turned a b = by (same_entity a b) (same_entity b a) refl refl
  where
    by : (x y : Bool) → same_entity a b ≡ x → same_entity b a ≡ y → x ≡ y
    by true true p q = refl
    by false false p q = refl
    by true false p q = sym (entity-along b a (sym (entity-sound a b p))) ∙ q
    by false true p q = sym p ∙ entity-along a b (sym (entity-sound b a q))

-- LAW: an event of an entity is put in at its id
pub event-of : (v : BusEvent) (own e : EntityId) (place : ℕ) (old new : Option ℕ) → v.entity ≡ Some own
    → new ≡ place_or place (same_entity own e) old → new ≡ place_or place (event_is_of e v) old
event-of v own e place old new is put =
    put ∙ (λ i. place_or place (same-turned own e i) old)
    ∙ (λ i. place_or place (option_map_or (same_entity e) (sym is i) false) old)

-- LAW: one of no entity is not
pub event-of-none : (v : BusEvent) (e : EntityId) (place : ℕ) (old : Option ℕ) → v.entity ≡ None → old ≡ place_or place (event_is_of e v) old
event-of-none v e place old is = stays old ∙ (λ i. place_or place (option_map_or (same_entity e) (sym is i) false) old)
  where
    stays : (o : Option ℕ) → o ≡ place_or place false o
    stays None = refl
    stays (Some n) = refl

-- LAW: where there is a table, it has a place for an id exactly where something is of it
pub tabled-has : {X : Type 0} (o : Option Places) (places : Places) (is_of : EntityId → X → Bool) (xs : List X) → AreTabled o is_of xs → o ≡ Some places
    → (e : EntityId) → is_some (place_in places e) ≡ list_any (is_of e) xs
tabled-has o places is_of xs h there = placed-has places is_of xs (subst (λ p. AreTabled p is_of xs) there h)

-- LAW: at that place is the first that is
pub tabled-found : {X : Type 0} (o : Option Places) (places : Places) (is_of : EntityId → X → Bool) (xs : List X) → AreTabled o is_of xs → o ≡ Some places
    → (e : EntityId) → option_and_then (slice_get xs) (place_in places e) ≡ find (is_of e) xs
tabled-found o places is_of xs h there = placed-found places is_of xs (subst (λ p. AreTabled p is_of xs) there h)
