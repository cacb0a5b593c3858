-- Helpers in a list, each found by its id.
use Rattle.std.specs.Prelude.{◌≡◌, ℕ, Bool, List, slice_get, option_map}
use Rattle.ha_value.specs.declared.value.EntityId.{EntityId}
use Rattle.ha_config.specs.Words.{same_entity}
use Rattle.helper_set.specs.declared.kept.Kept.{Kept}

pub record Listed : Type 0 where
  pub items : List Kept

-- the helper has this id
abbrev pub kept_is_of : EntityId → Kept → Bool
kept_is_of e k = same_entity k.helper.entity e

-- the same ids at each place
abbrev pub HaveSameIds : List Kept → List Kept → Type 0
HaveSameIds old new = (n : ℕ) → option_map (λ (k : Kept). k.helper.entity) (slice_get new n) ≡ option_map (λ (k : Kept). k.helper.entity) (slice_get old n)
