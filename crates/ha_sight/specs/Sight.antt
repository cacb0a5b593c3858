-- What one place sees.
use Rattle.std.specs.Prelude.{ℕ, Bool, nat_eq, Option, find, option_map, List}
use Rattle.ha_config.specs.Words.{Text}
use Rattle.ha_value.specs.declared.value.EntityId.{EntityId}
use Rattle.ha_sight.specs.declared.state.StateObject.{StateObject}
use Rattle.ha_sight.specs.Known.{Known}

-- automations, each by its number, with its name and its switch
abbrev pub Automations : Type 0
Automations = List (ℕ × Text × Bool)

pub record Sight : Type 0 where
  pub states : EntityId → Option StateObject
  pub now : ℕ
  pub zone : Text
  -- those in force, in the order of the configuration
  pub automations : Automations
  -- the names of the scripts in force, each with its unit's number
  pub scripts : List (Text × ℕ)
  -- the helpers, each with its last change
  pub helpers : List Known

-- the switch of the automation of a number, if there is one
abbrev pub switch_at : Automations → ℕ → Option Bool
switch_at all a = option_map (λ p. p.2) (find (λ p. nat_eq p.0 a) all)

abbrev pub switch_seen : Sight → ℕ → Option Bool
switch_seen sight a = switch_at sight.automations a
