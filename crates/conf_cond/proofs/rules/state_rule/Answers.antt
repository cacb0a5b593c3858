use Rattle.conf_field.specs.declared.key.Key.TheVariants as key
use Rattle.conf_field.specs.Readings.{both}
use Rattle.conf_field.specs.Fields.{get, need}
use Rattle.conf_field.specs.Kinds as kinds
use Rattle.conf_field.specs.Spans.{span}
use Rattle.conf_cond.proofs.rules.state_rule.Goals as goal

pub returns : goal.returns
returns c =
    let pairs = c.args.pairs.now in
    let entities = need key.EntityId c.args.line pairs kinds.entities in
    let texts = need key.State c.args.line pairs kinds.texts in
    let attribute = get key.Attribute pairs kinds.text in
    let hold = get key.For pairs span in
    c.made_state.ensures (both entities (both texts (both attribute hold)))
    (c.both-3.ensures entities (both texts (both attribute hold)) c.needed-entities.ensures
    (c.both-2.ensures texts (both attribute hold) c.needed-texts.ensures
    (c.both.ensures attribute hold c.optional-attribute.ensures c.optional-hold.ensures)))
