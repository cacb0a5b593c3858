-- Of which entity a change is.
use Rattle.std.specs.Prelude.{Bool}
use Rattle.ha_value.specs.declared.value.EntityId.{EntityId}
use Rattle.ha_config.specs.Words.{same_entity}
use Rattle.trig_set.specs.declared.scene.Shift.{Shift}

-- the change is of the entity
abbrev pub shift_is_of : EntityId → Shift → Bool
shift_is_of e c = same_entity c.entity e
