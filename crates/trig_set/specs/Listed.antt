-- What an index has for triggers, each with one of its entities.
use Rattle.std.specs.Prelude.{◌≡◌, ℕ, true, List, MatchOption, Option, slice_get}
use Rattle.ha_value.specs.declared.value.EntityId.{EntityId}
use Rattle.ha_config.specs.declared.config.Trigger.{Trigger}
use Rattle.event_bus.specs.declared.index.Index.{Index}
use Rattle.event_bus.specs.Subjects.{Subject, concerns, knows}

-- the index has the number for all that concerns a trigger, for one of its entities
abbrev pub HasFor : Index → ℕ → Trigger → Option EntityId → Type 0
HasFor index n t e = (s : Subject) → concerns t.rule e s ≡ true → knows index s n ≡ true

-- for the trigger of an index and an entity, if there is one
abbrev pub HasAt : Index → ℕ → List Trigger → ℕ × Option EntityId → Type 0
HasAt index n triggers p = MatchOption (slice_get triggers p.0) (Unit {0}) (λ t. HasFor index n t p.1)

-- the index has each place for all that concerns the trigger and the entity there
abbrev pub AreIndexed : Index → List Trigger → List (ℕ × Option EntityId) → Type 0
AreIndexed index triggers places = (n : ℕ) → MatchOption (slice_get places n) (Unit {0}) (HasAt index n triggers)
