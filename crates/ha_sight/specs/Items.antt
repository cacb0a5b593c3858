-- What an item of a step is: a call, the code of a failure, runs of scripts that it starts or ends, or changes of helpers.
use Rattle.std.specs.Prelude.{ℕ, Bool, false, List, [], Option, Some, None, is_some}
use Rattle.ha_value.specs.declared.value.EntityId.{EntityId}
use Rattle.ha_sight.specs.declared.helped.HelperChange.{HelperChange}
use Rattle.ha_sight.specs.declared.item.Item.{Item}
use Rattle.ha_config.specs.Words.{Text, Pairs}

pub record Called : Type 0 where
  pub service : Text
  pub target : List EntityId
  pub fields : Pairs

abbrev pub call_in : Item → Option Called
call_in (Item.Call service target fields) = Some (record { service = service; target = target; fields = fields })
call_in Item.Nothing = None
call_in (Item.Fired kind pairs) = None
call_in (Item.Switched targets) = None
call_in (Item.Triggered automations skip) = None
call_in (Item.Failed code) = None
call_in (Item.Started scripts fields waits) = None
call_in (Item.Halted scripts) = None
call_in (Item.Helped changes) = None

abbrev pub is_call : Item → Bool
is_call item = is_some (call_in item)

-- the code with which a step failed
abbrev pub failure_in : Item → Option ℕ
failure_in (Item.Failed code) = Some code
failure_in Item.Nothing = None
failure_in (Item.Call service target fields) = None
failure_in (Item.Fired kind pairs) = None
failure_in (Item.Switched targets) = None
failure_in (Item.Triggered automations skip) = None
failure_in (Item.Started scripts fields waits) = None
failure_in (Item.Halted scripts) = None
failure_in (Item.Helped changes) = None

-- the step's own run waits for the end of the run that it started
abbrev pub awaits_end : Item → Bool
awaits_end (Item.Started scripts fields waits) = waits
awaits_end Item.Nothing = false
awaits_end (Item.Call service target fields) = false
awaits_end (Item.Fired kind pairs) = false
awaits_end (Item.Switched targets) = false
awaits_end (Item.Triggered automations skip) = false
awaits_end (Item.Failed code) = false
awaits_end (Item.Halted scripts) = false
awaits_end (Item.Helped changes) = false

-- the scripts whose runs it ends
abbrev pub halted_by : Item → List ℕ
halted_by (Item.Halted scripts) = scripts
halted_by Item.Nothing = []
halted_by (Item.Call service target fields) = []
halted_by (Item.Fired kind pairs) = []
halted_by (Item.Switched targets) = []
halted_by (Item.Triggered automations skip) = []
halted_by (Item.Failed code) = []
halted_by (Item.Started scripts fields waits) = []
halted_by (Item.Helped changes) = []

-- the helpers that it changes, each with what it is from here on
abbrev pub changes_by : Item → List HelperChange
changes_by (Item.Helped changes) = changes
changes_by Item.Nothing = []
changes_by (Item.Call service target fields) = []
changes_by (Item.Fired kind pairs) = []
changes_by (Item.Switched targets) = []
changes_by (Item.Triggered automations skip) = []
changes_by (Item.Failed code) = []
changes_by (Item.Started scripts fields waits) = []
changes_by (Item.Halted scripts) = []

-- an item that switches nothing
abbrev pub SwitchesNone : Item → Type 0
SwitchesNone (Item.Switched targets) = ⊥
SwitchesNone Item.Nothing = Unit {0}
SwitchesNone (Item.Call service target fields) = Unit {0}
SwitchesNone (Item.Fired kind pairs) = Unit {0}
SwitchesNone (Item.Triggered automations skip) = Unit {0}
SwitchesNone (Item.Failed code) = Unit {0}
SwitchesNone (Item.Started scripts fields waits) = Unit {0}
SwitchesNone (Item.Halted scripts) = Unit {0}
SwitchesNone (Item.Helped changes) = Unit {0}

-- an item that switches nothing, and ends no runs of scripts
abbrev pub EndsNone : Item → Type 0
EndsNone (Item.Switched targets) = ⊥
EndsNone Item.Nothing = Unit {0}
EndsNone (Item.Call service target fields) = Unit {0}
EndsNone (Item.Fired kind pairs) = Unit {0}
EndsNone (Item.Triggered automations skip) = Unit {0}
EndsNone (Item.Failed code) = Unit {0}
EndsNone (Item.Started scripts fields waits) = Unit {0}
EndsNone (Item.Halted scripts) = ⊥
EndsNone (Item.Helped changes) = Unit {0}
