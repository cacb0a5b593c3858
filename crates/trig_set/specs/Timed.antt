-- What event triggers give and fire with for the events of helpers.
use Rattle.std.specs.Prelude.{◌≡◌, ℕ, Bool, false, ◌&&◌, nat_lt, List, [], ◌∷◌, ◌++◌, Option, Some, None, codes, filter_map, map, option_map, option_and_then, slice_get, if◌then◌else◌}
use Rattle.std.specs.List.{cons_option, list_all}
use Rattle.std.specs.Option.{option_map_or}
use Rattle.ha_value.specs.declared.value.EntityId.{EntityId}
use Rattle.ha_value.specs.declared.value.Value.{Value}
use Rattle.ha_value.specs.declared.value.Value.TheVariants.{Pairs as Map}
use Rattle.ha_config.specs.declared.config.Trigger.{Trigger}
use Rattle.ha_config.specs.declared.config.TriggerRule.{TriggerRule}
use Rattle.ha_config.specs.Words.{Text, Pairs, one_of}
use Rattle.ha_journal.specs.declared.entry.Entry.{Entry}
use Rattle.ha_journal.specs.declared.event.BusEvent.{BusEvent}
use Rattle.ha_journal.specs.declared.firing.Firing.{Firing}
use Rattle.ha_journal.specs.Helpers.{event_for, events_of}
use Rattle.ha_journal.specs.Journal.{Journal}
use Rattle.ha_sight.specs.Rules.{event_value, head_pairs, is_event, pair_holds}
use Rattle.ha_past.specs.Firings.{Owner}
use Rattle.trig_set.specs.declared.spot.Spot.{Spot}
use Rattle.trig_set.specs.Kept.{At, firing_in}

-- the event of an entity that the entry gives, or of nobody: its kind and its data
abbrev pub event_seen : Journal → Entry → Option EntityId → Option (Text × Pairs)
event_seen j x e = option_map (λ v. (v.kind, v.pairs)) (event_for e (events_of j x))

-- the event is of one of the rule's kinds, and has each of its pairs
abbrev pub names_event : TriggerRule → BusEvent → Bool
names_event (TriggerRule.Event kinds pairs) v = one_of v.kind kinds && list_all (pair_holds v.pairs) pairs
names_event (TriggerRule.State entities attribute from to) v = false
names_event (TriggerRule.Numeric entities attribute above below) v = false
names_event (TriggerRule.Time seconds) v = false
names_event (TriggerRule.Pattern hours minutes seconds) v = false
names_event (TriggerRule.Template t) v = false
names_event TriggerRule.Start v = false

-- the variables that an event trigger gives with an event, if it names it
abbrev pub given_with : Trigger → BusEvent → Option Value
given_with t v =
    if names_event t.rule v then Some (Map (head_pairs (codes "event") t ++ ((codes "event", event_value (Some (v.kind, v.pairs))) ∷ []))) else None

-- the same, with the first of these events that is of the entity
abbrev pub given_for : Trigger → List BusEvent → Option EntityId → Option Value
given_for t events e = option_and_then (given_with t) (event_for e events)

-- the firing of a trigger, by its index, with these variables
abbrev pub timed_firing : ℕ → ℕ → Option EntityId → Value → Firing
timed_firing owner n e v = record { owner = owner; trigger = n; entity = e; env = (codes "trigger", v) ∷ [] }

abbrev pub timed_for : ℕ → ℕ → Trigger → List BusEvent → Option EntityId → Option Firing
timed_for owner n t events e = option_map (timed_firing owner n e) (given_for t events e)

-- for each of the events, in their order
abbrev pub timed_by : ℕ → ℕ → Trigger → List BusEvent → List Firing
timed_by owner n t events = filter_map (timed_for owner n t events) (map (λ v. v.entity) events)

-- an event trigger that was attached before the place fires so
abbrev pub timed_of : Owner → ℕ → List BusEvent → ℕ → Trigger → List Firing
timed_of o place events n t = if is_event t.rule && nat_lt o.since place then timed_by o.owner n t events else []

-- what a spot fires with: with what it has, and then, of an event trigger, for each of the events
abbrev pub timed_in : Owner → ℕ → List BusEvent → Spot → List Firing
timed_in o place events s = option_map_or (timed_of o place events s.trigger) (slice_get o.triggers s.trigger) []

abbrev pub firings_in : Owner → ℕ → List BusEvent → Spot → List Firing
firings_in o place events s = cons_option (firing_in o.owner s) (timed_in o place events s)

-- the spot at a place fires with nothing
abbrev pub Unfired : Owner → ℕ → List BusEvent → List Spot → ℕ → Type 0
Unfired o place events spots n = At spots n (λ s. (s.fired ≡ None) × (timed_in o place events s ≡ []))
