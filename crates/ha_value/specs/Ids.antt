-- Entity ids: `domain.object_id`, each part one or more of `a` to `z`, `0` to `9` and `_`.
use Rattle.std.specs.Prelude.{◌≡◌, ℕ, Bool, true, false, ◌&&◌, ◌||◌, nat_eq, if◌then◌else◌}
use Rattle.std.specs.Prelude.{List, [], ◌∷◌, ◌++◌, Option, Some, None, is_some}
use Rattle.std.specs.Char.{is_ascii_lowercase, is_ascii_digit}
use Rattle.ha_value.specs.declared.value.EntityId.{EntityId}
use Rattle.ha_value.specs.Lists.{some_all, before_first, after_first}

abbrev pub is_name_byte : ℕ → Bool
is_name_byte c = is_ascii_lowercase c || (is_ascii_digit c || nat_eq c 95)

-- the form of a domain and of an object id
abbrev pub is_name : List ℕ → Bool
is_name text = some_all is_name_byte text

abbrev pub is_entity : EntityId → Bool
is_entity e = is_name e.domain && is_name e.object

-- the id as it is written
abbrev pub entity_text : EntityId → List ℕ
entity_text e = e.domain ++ 46 ∷ e.object

abbrev pub entity_from : List ℕ → Option (List ℕ) → Option EntityId
entity_from domain None = None
entity_from domain (Some object) =
    if is_name domain && is_name object then Some (record { domain = domain; object = object }) else None

-- the id that a text is, cut at its dot
unfoldable pub read_entity : List ℕ → Option EntityId
read_entity text = entity_from (before_first 46 text) (after_first 46 text)

-- what a table of texts has for an id: no id is kept that has a dot in its domain
abbrev pub for_id : {X : Type 0} → X → (List ℕ → X) → EntityId → X
for_id none table e = if is_some (after_first 46 e.domain) then none else table (entity_text e)

-- the text is the id of these two parts
abbrev pub IsParts : List ℕ → List ℕ → List ℕ → Type 0
IsParts text domain object = (is_name domain ≡ true) × (is_name object ≡ true)
    × (read_entity text ≡ Some (record { domain = domain; object = object }))

-- what follows is a dot and a name, and something stands in front
abbrev pub dot_and_name : Bool → List ℕ → Bool
dot_and_name front [] = false
dot_and_name front (c ∷ object) = nat_eq c 46 && (front && is_name object)
