-- The states of automations that an entry sets anew.
use Rattle.std.specs.Prelude.{ℕ, Bool, [], codes, if◌then◌else◌}
use Rattle.ha_value.specs.declared.value.EntityId.{EntityId}
use Rattle.ha_sight.specs.declared.state.StateObject.{StateObject}
use Rattle.ha_config.specs.Words.{same}

-- the id is of the domain of automations
abbrev pub is_automation : EntityId → Bool
is_automation e = same e.domain (codes "automation")

-- the state of an automation that was switched, booted or restarted at that moment
abbrev pub switch_object : Bool → ℕ → StateObject
switch_object on at = record { text = if on then codes "on" else codes "off"; attributes = []; changed = at; updated = at }
