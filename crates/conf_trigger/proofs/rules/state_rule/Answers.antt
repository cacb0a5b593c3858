use Rattle.conf_field.specs.Fields as fields
use Rattle.conf_field.specs.declared.key.Key.TheVariants as key
use Rattle.conf_field.specs.Readings.{both}
use Rattle.conf_field.specs.Fields.{row}
use Rattle.conf_field.specs.Kinds as kinds
use Rattle.conf_trigger.specs.Triggers as triggers
use Rattle.conf_trigger.proofs.rules.state_rule.Goals as goal

pub returns : goal.returns
returns c =
    let pairs = c.args.pairs.now in
    let entities = fields.need key.EntityId c.args.line pairs kinds.entities in
    let attribute = fields.get key.Attribute pairs kinds.text in
    let from = triggers.side (row key.From) (row key.NotFrom) pairs in
    let to = triggers.side (row key.To) (row key.NotTo) pairs in
    let hold = triggers.hold pairs in
    c.made_state.ensures (both entities (both attribute (both from (both to hold))))
    (c.both-4.ensures entities (both attribute (both from (both to hold))) c.needed-entities.ensures
    (c.both-3.ensures attribute (both from (both to hold)) c.optional-attribute.ensures
    (c.both-2.ensures from (both to hold) c.side-from.ensures
    (c.both.ensures to hold c.side-to.ensures c.hold-hold.ensures))))
