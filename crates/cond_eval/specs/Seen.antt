-- What a view sees.
use Rattle.std.specs.Prelude.{ℕ, Bool, false, List, [], map, zip, codes}
use Rattle.std.specs.Option.{option_map_or}
use Rattle.ha_value.specs.declared.value.EntityId.{EntityId}
use Rattle.ha_config.specs.declared.config.Automation.{Automation}
use Rattle.ha_config.specs.declared.config.Config.{Config}
use Rattle.ha_sight.specs.declared.state.StateObject.{StateObject}
use Rattle.ha_config.specs.Words.{Text, same}
use Rattle.ha_sight.specs.Sight.{Automations, Sight}
use Rattle.state_table.specs.declared.table.StateTable.{StateTable}
use Rattle.state_table.specs.Table.{at}
use Rattle.cond_eval.specs.declared.view.View.{View}

-- the entity of the automation of this name
abbrev pub automation_id : Text → EntityId
automation_id name = record { domain = codes "automation"; object = name }

-- the state of an automation says that it is on
abbrev pub says_on : StateObject → Bool
says_on s = same s.text (codes "on")

abbrev pub is_shown_on : StateTable → Text → Bool
is_shown_on states name = option_map_or says_on (at states (automation_id name)) false

-- the automations of a configuration, each with its number; the numbers are those of all its units, automations first
abbrev pub rules_in : List ℕ → Config → List (ℕ × Automation)
rules_in numbers config = zip numbers config.automations

-- automations with their switches: the switch of one is the state of its entity
abbrev pub shown_of : StateTable → List (ℕ × Automation) → Automations
shown_of states rules = map {A = ℕ × Automation} {B = ℕ × Text × Bool} (λ p. (p.0, p.1.name, is_shown_on states p.1.name)) rules

-- what these parts see; no script and no helper is seen
abbrev pub sight_of : StateTable → List ℕ → Config → Text → ℕ → Sight
sight_of states numbers config zone moment = record {
  states = at states;
  now = moment;
  zone = zone;
  automations = shown_of states (rules_in numbers config);
  scripts = [];
  helpers = [];
}

abbrev pub seen : View → Sight
seen v = sight_of v.states.now v.numbers.now v.config.now v.zone.now v.at
