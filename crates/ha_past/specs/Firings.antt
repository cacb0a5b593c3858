-- Who has triggers attached, and which of them fire at an entry.
use Rattle.std.specs.Prelude.{ℕ, not, nat_eq, nat_lt, List, [], ◌∷◌, Option, find, filter}
use Rattle.std.specs.Prelude.{filter_map, flat_map, map, option_map, codes, if◌then◌else◌}
use Rattle.ha_value.specs.declared.value.EntityId.{EntityId}
use Rattle.ha_config.specs.declared.config.Trigger.{Trigger}
use Rattle.ha_journal.specs.declared.firing.Firing.{Firing}
use Rattle.ha_journal.specs.Journal.{Journal}
use Rattle.ha_journal.specs.Triggers.{Fired, entities_at, firings as fired}
use Rattle.ha_journal.specs.Holds.{fired_from}
use Rattle.ha_journal.specs.Variables.{variables}

-- an owner with its triggers, which fire at entries after `since`
pub record Owner : Type 0 where
  pub owner : ℕ
  pub triggers : List Trigger
  pub since : ℕ

-- the owner of that number, if it has triggers attached
abbrev pub owner_named : ℕ → List Owner → Option Owner
owner_named n owners = find (λ o. nat_eq o.owner n) owners

-- one more owner, in the order of their numbers
abbrev pub placed : Owner → List Owner → List Owner
placed o [] = o ∷ []
placed o (x ∷ xs) = if nat_lt o.owner x.owner then o ∷ x ∷ xs else x ∷ placed o xs

abbrev pub without_owner : ℕ → List Owner → List Owner
without_owner n owners = filter (λ o. not (nat_eq o.owner n)) owners

-- the firing of a trigger of an owner, with its variables under their name
abbrev pub firing_by : Owner → Fired → Firing
firing_by o f = record { owner = o.owner; trigger = f.trigger; entity = f.entity; env = (codes "trigger", f.variables) ∷ [] }

module _ (j : Journal) (p : ℕ) where
  abbrev pub firings_of : Owner → List Firing
  firings_of o = map (firing_by o) (fired j o.triggers o.since p)

  -- all firings at place p, in order of owner, trigger and entity, or event
  abbrev pub firings : List Owner → List Firing
  firings owners = flat_map firings_of owners

  -- the same, of one trigger with its index: for an entity, and for all for which it may fire there
  abbrev pub firing_for : Owner → ℕ × Trigger → Option EntityId → Option Firing
  firing_for o t e =
      option_map (λ i. record { owner = o.owner; trigger = t.0; entity = e; env = (codes "trigger", variables j t.1 e i) ∷ [] })
      (fired_from j t.1 e o.since p)

  abbrev pub firings_by : Owner → ℕ × Trigger → List Firing
  firings_by o t = filter_map (firing_for o t) (entities_at j p t.1.rule)
