-- What a table of states says, and how it changes.
use Rattle.std.specs.Prelude.{◌≡◌, Option, None, if◌then◌else◌}
use Rattle.std.specs.BTreeMap.{get_by_text}
use Rattle.ha_value.specs.declared.value.EntityId.{EntityId}
use Rattle.ha_value.specs.Ids.{for_id}
use Rattle.ha_sight.specs.declared.state.StateObject.{StateObject}
use Rattle.ha_config.specs.Words.{same_entity}
use Rattle.state_table.specs.Anew.{is_automation}
use Rattle.state_table.specs.declared.table.StateTable.{StateTable}

-- the state of an entity in the table: that of an automation by its name, that of another entity by its id as it is written
abbrev pub at : StateTable → EntityId → Option StateObject
at t e = if is_automation e then get_by_text t.automations e.object else for_id None (get_by_text t.others) e

-- the new table has this at the entity, and is as the old one at the others
abbrev pub ChangesAt : StateTable → StateTable → EntityId → Option StateObject → Type 0
ChangesAt old new entity object = (e : EntityId) → at new e ≡ (if same_entity entity e then object else at old e)

-- two tables have the same states
abbrev pub AgreesWith : StateTable → StateTable → Type 0
AgreesWith old new = (e : EntityId) → at new e ≡ at old e
