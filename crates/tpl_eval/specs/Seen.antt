-- What a place sees, against a table of states.
use Rattle.std.specs.Prelude.{◌≡◌}
use Rattle.ha_value.specs.declared.value.EntityId.{EntityId}
use Rattle.ha_sight.specs.Sight.{Sight}
use Rattle.state_table.specs.declared.table.StateTable.{StateTable}
use Rattle.state_table.specs.Table.{at}

-- a sight has the states of the table
abbrev pub Sees : Sight → StateTable → Type 0
Sees sight t = (e : EntityId) → sight.states e ≡ at t e
