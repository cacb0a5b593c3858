use Rattle.std.specs.Prelude.{[], ◌∷◌, codes}
use Rattle.ha_value.specs.declared.value.Value.{Value}
use Rattle.ha_value.specs.declared.value.Value.TheVariants.{Pairs as Map}
use Rattle.ha_value.specs.Ids.{entity_text}
use Rattle.ha_sight.specs.TriggerValues.{bound_value, head, shown_value}
use Rattle.ha_sight.specs.Rules.{event_pairs, text_or_null}
use Rattle.ha_sight.proofs.part.kept_field.Goals as goal

pub returns-in-State : goal.returns-in-State
returns-in-State c =
    let s = c.in-State in
    rw s.is (c.either.ensures c.args.name.now (head (codes "state") s.id s.idx)
    ((codes "entity_id", Value.Text (entity_text s.entity)) ∷ (codes "from_state", shown_value s.entity s.old) ∷ (codes "to_state", shown_value s.entity s.new) ∷ (codes "attribute", text_or_null s.attribute) ∷ [])
    c.head_field.ensures c.later_of_state.ensures)

pub returns-in-Numeric : goal.returns-in-Numeric
returns-in-Numeric c =
    let s = c.in-Numeric in
    rw s.is (c.either-in-Numeric.ensures c.args.name.now (head (codes "numeric_state") s.id s.idx)
    ((codes "entity_id", Value.Text (entity_text s.entity)) ∷ (codes "from_state", shown_value s.entity s.old) ∷ (codes "to_state", shown_value s.entity s.new) ∷ (codes "above", bound_value s.above) ∷ (codes "below", bound_value s.below) ∷ [])
    c.head_field-in-Numeric.ensures c.later_of_number.ensures)

pub returns-in-Event : goal.returns-in-Event
returns-in-Event c =
    let s = c.in-Event in
    rw s.is (c.either-in-Event.ensures c.args.name.now (head (codes "event") s.id s.idx) ((codes "event", Map (event_pairs (s.kind, s.pairs))) ∷ [])
    c.head_field-in-Event.ensures c.later_of_event.ensures)
