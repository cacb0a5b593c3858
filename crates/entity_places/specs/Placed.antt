-- What a table of places has for each entity id.
use Rattle.std.specs.Prelude.{◌≡◌, ℕ, Bool, List, Option, Some, None, if◌then◌else◌}
use Rattle.std.specs.BTreeMap.{get_by_text}
use Rattle.std.specs.List.{position}
use Rattle.ha_value.specs.declared.value.EntityId.{EntityId}
use Rattle.ha_value.specs.Ids.{for_id}
use Rattle.entity_places.specs.declared.places.Places.{Places}

-- the place of an id
abbrev pub place_in : Places → EntityId → Option ℕ
place_in places e = for_id None (get_by_text places.table) e

-- the place that is there, else this one where it is meant
abbrev pub place_or : ℕ → Bool → Option ℕ → Option ℕ
place_or place meant None = if meant then Some place else None
place_or place meant (Some n) = Some n

-- each id has the place of the first item of the list that is of it
abbrev pub ArePlaced : {X : Type 0} → Places → (EntityId → X → Bool) → List X → Type 0
ArePlaced places is_of xs = (e : EntityId) → place_in places e ≡ position (is_of e) xs
