-- The value of the variable `trigger`, by what is kept of a firing; and a list of variables that begins with it.
use Rattle.std.specs.Prelude.{ℕ, [], ◌∷◌, ◌++◌, Option, Some, None, codes, decimal}
use Rattle.std.specs.Option.{option_map_or}
use Rattle.ha_value.specs.declared.value.EntityId.{EntityId}
use Rattle.ha_value.specs.declared.value.Num.{Num}
use Rattle.ha_value.specs.declared.value.Value.{Value}
use Rattle.ha_value.specs.declared.value.Value.TheVariants.{Pairs as Map}
use Rattle.ha_value.specs.Ids.{entity_text}
use Rattle.ha_sight.specs.declared.trigger_data.Bound.{Bound}
use Rattle.ha_sight.specs.declared.trigger_data.Kind.{Kind}
use Rattle.ha_sight.specs.declared.trigger_data.Shown.{Shown}
use Rattle.ha_sight.specs.Rules.{event_pairs, text_or_null}
use Rattle.ha_config.specs.Words.{Text, Pairs}

-- what each trigger gives: its platform, its id and its index
abbrev pub head : Text → Text → ℕ → Pairs
head platform id idx =
    (codes "platform", Value.Text platform) ∷ (codes "id", Value.Text id) ∷ (codes "idx", Value.Text (decimal idx)) ∷ []

-- the map of an entity's state, by what is kept of it
abbrev pub shown_pairs : EntityId → Shown → Pairs
shown_pairs e s =
    (codes "entity_id", Value.Text (entity_text e))
    ∷ (codes "domain", Value.Text e.domain)
    ∷ (codes "object_id", Value.Text e.object)
    ∷ (codes "state", Value.Text s.text)
    ∷ (codes "attributes", Map s.attributes) ∷ []

-- null where there is none
abbrev pub shown_value : EntityId → Option Shown → Value
shown_value e s = option_map_or (λ o. Map (shown_pairs e o)) s Value.Null

abbrev pub bound_value : Bound → Value
bound_value Bound.Absent = Value.Null
bound_value (Bound.Whole count) = Value.Number (Num.Whole count)
bound_value (Bound.Fixed millionths) = Value.Number (Num.Fixed millionths)

abbrev pub value_of : Kind → Value
value_of (Kind.Whole value) = value
value_of (Kind.Bare platform id idx) = Map (head platform id idx)
value_of (Kind.State id idx entity old new attribute) =
    Map (head (codes "state") id idx
    ++ ((codes "entity_id", Value.Text (entity_text entity))
    ∷ (codes "from_state", shown_value entity old)
    ∷ (codes "to_state", shown_value entity new)
    ∷ (codes "attribute", text_or_null attribute) ∷ []))
value_of (Kind.Numeric id idx entity old new above below) =
    Map (head (codes "numeric_state") id idx
    ++ ((codes "entity_id", Value.Text (entity_text entity))
    ∷ (codes "from_state", shown_value entity old)
    ∷ (codes "to_state", shown_value entity new)
    ∷ (codes "above", bound_value above)
    ∷ (codes "below", bound_value below) ∷ []))
value_of (Kind.Event id idx kind pairs) =
    Map (head (codes "event") id idx ++ ((codes "event", Map (event_pairs (kind, pairs))) ∷ []))

-- the variables that a script sees begin with it, where its data is kept
abbrev pub trigger_pairs : Option Value → Pairs
trigger_pairs None = []
trigger_pairs (Some value) = (codes "trigger", value) ∷ []
