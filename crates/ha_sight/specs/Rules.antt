-- The kinds of triggers' rules, what they ask of two sights, and the variables that they give.
use Rattle.std.specs.Prelude.{ℕ, ◌/◌, ◌%◌, Bool, true, false, not, ◌&&◌, ◌||◌, nat_eq, [], Option, Some, None, option_map, option_and_then, if◌then◌else◌, List, ◌∷◌, ◌++◌, map, codes, decimal}
use Rattle.std.specs.List.{list_any}
use Rattle.std.specs.Option.{option_map_or}
use Rattle.ha_value.specs.declared.value.EntityId.{EntityId}
use Rattle.ha_value.specs.declared.value.Num.{Num}
use Rattle.ha_value.specs.declared.value.Value.{Value}
use Rattle.ha_clock.specs.Passed.{passes_second}
use Rattle.ha_config.specs.declared.config.Match.{Match}
use Rattle.ha_config.specs.declared.config.Unit as unit
use Rattle.ha_config.specs.declared.config.Trigger.{Trigger}
use Rattle.ha_config.specs.declared.config.TriggerRule.{TriggerRule}
use Rattle.ha_sight.specs.declared.state.StateObject.{StateObject}
use Rattle.ha_config.specs.Words.{Text, Pairs, same, same_entity, first_pair, one_of}
use Rattle.ha_config.specs.Equal.{same_value, same_pairs, equal_value}
use Rattle.ha_sight.specs.Sight.{Sight}
use Rattle.ha_sight.specs.Conditions.{watched_text}
use Rattle.ha_value.specs.declared.value.Value.TheVariants.{Pairs as Map}
use Rattle.ha_value.specs.Ids.{entity_text}

-- the kinds of rules
pub data RuleKind : Type 0 where
  OfStates : RuleKind
  OfNumbers : RuleKind
  OfEvents : RuleKind
  OfTimes : RuleKind
  OfTemplates : RuleKind
  OfStart : RuleKind

abbrev pub same_kind : RuleKind → RuleKind → Bool
same_kind RuleKind.OfStates RuleKind.OfStates = true
same_kind RuleKind.OfNumbers RuleKind.OfNumbers = true
same_kind RuleKind.OfEvents RuleKind.OfEvents = true
same_kind RuleKind.OfTimes RuleKind.OfTimes = true
same_kind RuleKind.OfTemplates RuleKind.OfTemplates = true
same_kind RuleKind.OfStart RuleKind.OfStart = true
same_kind kind other = false

abbrev pub kind_of : TriggerRule → RuleKind
kind_of (TriggerRule.State entities attribute from to) = RuleKind.OfStates
kind_of (TriggerRule.Numeric entities attribute above below) = RuleKind.OfNumbers
kind_of (TriggerRule.Event kinds pairs) = RuleKind.OfEvents
kind_of (TriggerRule.Time seconds) = RuleKind.OfTimes
kind_of (TriggerRule.Pattern hours minutes seconds) = RuleKind.OfTimes
kind_of (TriggerRule.Template t) = RuleKind.OfTemplates
kind_of TriggerRule.Start = RuleKind.OfStart

abbrev pub is_state : TriggerRule → Bool
is_state rule = same_kind (kind_of rule) RuleKind.OfStates

abbrev pub is_numeric : TriggerRule → Bool
is_numeric rule = same_kind (kind_of rule) RuleKind.OfNumbers

abbrev pub is_event : TriggerRule → Bool
is_event rule = same_kind (kind_of rule) RuleKind.OfEvents

-- a rule of times, by seconds or by a pattern
abbrev pub has_times : TriggerRule → Bool
has_times rule = same_kind (kind_of rule) RuleKind.OfTimes

abbrev pub is_template : TriggerRule → Bool
is_template rule = same_kind (kind_of rule) RuleKind.OfTemplates

abbrev pub starts : TriggerRule → Bool
starts rule = same_kind (kind_of rule) RuleKind.OfStart

-- a side of a change against its text, which may be missing
abbrev pub matches : Match → Option Text → Bool
matches Match.Absent t = true
matches Match.Any t = true
matches (Match.OneOf ts) t = option_map_or (λ x. one_of x ts) t false
matches (Match.NoneOf ts) t = not (option_map_or (λ x. one_of x ts) t false)

abbrev pub is_absent : Match → Bool
is_absent Match.Absent = true
is_absent Match.Any = false
is_absent (Match.OneOf ts) = false
is_absent (Match.NoneOf ts) = false

abbrev pub same_optional : Option Value → Option Value → Bool
same_optional None None = true
same_optional (Some a) (Some b) = same_value a b
same_optional (Some a) None = false
same_optional None (Some b) = false

-- the state rule on an entity's old and new state
abbrev pub state_moves : Option Text → Match → Match → Bool → Option StateObject → Option StateObject → Bool
state_moves attribute from to held old None = false
state_moves (Some name) from to held old (Some s) =
    not (same_optional (option_and_then (λ o. first_pair name o.attributes) old) (first_pair name s.attributes))
    && matches from (option_and_then (watched_text (Some name)) old) && matches to (watched_text (Some name) s)
state_moves None from to held old (Some s) =
    option_map_or
    (λ o. not (same o.text s.text) || (is_absent from && is_absent to && not held && not (same_pairs o.attributes s.attributes)))
    old true
    && matches from (option_map (λ o. o.text) old) && matches to (Some s.text)

abbrev pub pair_holds : Pairs → Text × Value → Bool
pair_holds given p = option_map_or (equal_value p.1) (first_pair p.0 given) false

abbrev pub fits_unit : unit.Unit → ℕ → Bool
fits_unit unit.Unit.Every x = true
fits_unit (unit.Unit.Exact n) x = nat_eq x n
fits_unit (unit.Unit.Each n) x = nat_eq (x % n) 0

-- the local second of the day fits the rule
abbrev pub second_fits : TriggerRule → ℕ → Bool
second_fits (TriggerRule.State entities attribute from to) s = false
second_fits (TriggerRule.Numeric entities attribute above below) s = false
second_fits (TriggerRule.Event kinds pairs) s = false
second_fits (TriggerRule.Time seconds) s = list_any (nat_eq s) seconds
second_fits (TriggerRule.Pattern hours minutes seconds) s =
    fits_unit hours (s / 3600) && fits_unit minutes ((s / 60) % 60) && fits_unit seconds (s % 60)
second_fits (TriggerRule.Template t) s = false
second_fits TriggerRule.Start s = false

-- where the clock goes from one moment to another, a second is passed whose local second of the day fits the rule
abbrev pub passed : TriggerRule → Text → ℕ → ℕ → Bool
passed rule zone from to = passes_second zone (second_fits rule) from to

-- the entities of a list, each at its first place
abbrev pub without_entity : EntityId → List EntityId → List EntityId
without_entity e [] = []
without_entity e (x ∷ xs) = if same_entity e x then without_entity e xs else x ∷ without_entity e xs

abbrev pub each_once : List EntityId → List EntityId
each_once [] = []
each_once (e ∷ es) = e ∷ without_entity e (each_once es)

-- the entities of a trigger, each once, or none where it has no entity
abbrev pub entities_of : TriggerRule → List (Option EntityId)
entities_of (TriggerRule.State entities attribute from to) = map Some (each_once entities)
entities_of (TriggerRule.Numeric entities attribute above below) = map Some (each_once entities)
entities_of (TriggerRule.Event kinds pairs) = None ∷ []
entities_of (TriggerRule.Time seconds) = None ∷ []
entities_of (TriggerRule.Pattern hours minutes seconds) = None ∷ []
entities_of (TriggerRule.Template t) = None ∷ []
entities_of TriggerRule.Start = None ∷ []

abbrev pub text_or_null : Option Text → Value
text_or_null t = option_map_or Value.Text t Value.Null

abbrev pub number_or_null : Option Num → Value
number_or_null n = option_map_or Value.Number n Value.Null

abbrev pub state_pairs : EntityId → StateObject → Pairs
state_pairs e o =
    (codes "entity_id", Value.Text (entity_text e))
    ∷ (codes "domain", Value.Text e.domain)
    ∷ (codes "object_id", Value.Text e.object)
    ∷ (codes "state", Value.Text o.text)
    ∷ (codes "attributes", Map o.attributes) ∷ []

abbrev pub state_value : EntityId → Option StateObject → Value
state_value e s = option_map_or (λ o. Map (state_pairs e o)) s Value.Null

abbrev pub event_pairs : Text × Pairs → Pairs
event_pairs v = (codes "event_type", Value.Text v.0) ∷ (codes "data", Map v.1) ∷ []

abbrev pub event_value : Option (Text × Pairs) → Value
event_value event = option_map_or (λ v. Map (event_pairs v)) event Value.Null

abbrev pub head_pairs : Text → Trigger → Pairs
head_pairs platform t =
    (codes "platform", Value.Text platform) ∷ (codes "id", Value.Text t.id) ∷ (codes "idx", Value.Text (decimal t.idx)) ∷ []

-- the variables of a trigger with this rule, by what is seen before and after the entry at which it moved, and the event that the entry is
abbrev pub given_by : Sight → Sight → Option (Text × Pairs) → Trigger → TriggerRule → Option EntityId → Pairs
given_by b a event t (TriggerRule.State entities attribute from to) (Some e) =
    head_pairs (codes "state") t
    ++ ((codes "entity_id", Value.Text (entity_text e))
    ∷ (codes "from_state", state_value e (b.states e))
    ∷ (codes "to_state", state_value e (a.states e))
    ∷ (codes "attribute", text_or_null attribute) ∷ [])
given_by b a event t (TriggerRule.State entities attribute from to) None = head_pairs (codes "state") t
given_by b a event t (TriggerRule.Numeric entities attribute above below) (Some e) =
    head_pairs (codes "numeric_state") t
    ++ ((codes "entity_id", Value.Text (entity_text e))
    ∷ (codes "from_state", state_value e (b.states e))
    ∷ (codes "to_state", state_value e (a.states e))
    ∷ (codes "above", number_or_null above)
    ∷ (codes "below", number_or_null below) ∷ [])
given_by b a event t (TriggerRule.Numeric entities attribute above below) None = head_pairs (codes "numeric_state") t
given_by b a event t (TriggerRule.Event kinds pairs) o = head_pairs (codes "event") t ++ ((codes "event", event_value event) ∷ [])
given_by b a event t (TriggerRule.Time seconds) o = head_pairs (codes "time") t
given_by b a event t (TriggerRule.Pattern hours minutes seconds) o = head_pairs (codes "time_pattern") t
given_by b a event t (TriggerRule.Template x) o = head_pairs (codes "template") t
given_by b a event t TriggerRule.Start o = head_pairs (codes "homeassistant") t

abbrev pub given : Sight → Sight → Option (Text × Pairs) → Trigger → Option EntityId → Value
given b a event t e = Map (given_by b a event t t.rule e)
