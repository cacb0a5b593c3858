-- Triggers: which of a list fire at a place, for which entity, and with which variables.
use Rattle.std.specs.Prelude.{ℕ, List, Option, map, flat_map, filter_map, option_map, if◌then◌else◌}
use Rattle.std.specs.List.{enumerate_from}
use Rattle.ha_value.specs.declared.value.EntityId.{EntityId}
use Rattle.ha_value.specs.declared.value.Value.{Value}
use Rattle.ha_config.specs.declared.config.Trigger.{Trigger}
use Rattle.ha_config.specs.declared.config.TriggerRule.{TriggerRule}
use Rattle.ha_journal.specs.Journal.{Journal}
use Rattle.ha_journal.specs.Helpers.{events_at}
use Rattle.ha_sight.specs.Rules.{entities_of, is_event}
use Rattle.ha_journal.specs.Holds.{fired_from}
use Rattle.ha_journal.specs.Variables.{variables}

-- a trigger of a list fires: its index in the list, the entity that it fires for, and the variables that it gives
pub record Fired : Type 0 where
  pub trigger : ℕ
  pub entity : Option EntityId
  pub variables : Value

module _ (j : Journal) where
  -- for whom it may fire at place p: an event trigger for each event of the place, whose it is, and any other for its entities
  abbrev pub entities_at : ℕ → TriggerRule → List (Option EntityId)
  entities_at p rule = if is_event rule then map (λ v. v.entity) (events_at j p) else entities_of rule

  -- trigger t, by its index, for an entity
  abbrev pub firing_for : ℕ → ℕ → ℕ × Trigger → Option EntityId → Option Fired
  firing_for since p t e =
      option_map (λ i. record { trigger = t.0; entity = e; variables = variables j t.1 e i }) (fired_from j t.1 e since p)

  abbrev pub firings_by : ℕ → ℕ → ℕ × Trigger → List Fired
  firings_by since p t = filter_map (firing_for since p t) (entities_at p t.1.rule)

  -- the firings of these triggers at place p, since a place, in order of trigger and entity, or event
  abbrev pub firings : List Trigger → ℕ → ℕ → List Fired
  firings triggers since p = flat_map (firings_by since p) (enumerate_from 0 triggers)
