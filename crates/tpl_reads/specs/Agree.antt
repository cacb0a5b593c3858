-- Sights that agree on entities.
use Rattle.std.specs.Prelude.{◌≡◌, true, List}
use Rattle.std.specs.List.{list_any}
use Rattle.ha_value.specs.declared.value.EntityId.{EntityId}
use Rattle.ha_config.specs.Words.{same_entity}
use Rattle.ha_sight.specs.Sight.{Sight}

-- two sights have the same state of each of the entities, or none of it
abbrev pub Agree : Sight → Sight → List EntityId → Type 0
Agree a b es = (e : EntityId) → list_any (λ f. same_entity f e) es ≡ true → a.states e ≡ b.states e
