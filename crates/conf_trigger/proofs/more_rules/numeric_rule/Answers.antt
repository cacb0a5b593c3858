use Rattle.std.proofs.Common.{Option, subst}
use Rattle.yaml_scan.specs.Answers.{Gives}
use Rattle.yaml_scan.specs.declared.fault.Fault.{Fault}
use Rattle.conf_field.specs.Fields as fields
use Rattle.conf_field.specs.declared.key.Key.TheVariants as key
use Rattle.conf_field.specs.Readings.{both, unless}
use Rattle.conf_field.specs.Fields.{row}
use Rattle.conf_field.specs.Kinds as kinds
use Rattle.conf_trigger.specs.Triggers as triggers
use Rattle.std.proofs.Common.{◌∷◌, []}
use Rattle.conf_trigger.proofs.more_rules.numeric_rule.Goals as goal

pub returns : goal.returns
returns c =
    let P : Option Fault → Type 0 = λ f. Gives (unless f) c.unless-bounded.result in
    let pairs = c.args.pairs.now in
    let bounded = unless (fields.one_of c.args.line (row key.Above ∷ row key.Below ∷ []) pairs) in
    let entities = fields.need key.EntityId c.args.line pairs kinds.entities in
    let attribute = fields.get key.Attribute pairs kinds.text in
    let above = fields.get key.Above pairs kinds.number in
    let below = fields.get key.Below pairs kinds.number in
    let hold = triggers.hold pairs in
    c.made_numeric.ensures (both bounded (both entities (both attribute (both above (both below hold)))))
    (c.both-5.ensures bounded (both entities (both attribute (both above (both below hold)))) (subst P c.one_of.ensures c.unless-bounded.ensures)
    (c.both-4.ensures entities (both attribute (both above (both below hold))) c.needed-entities.ensures
    (c.both-3.ensures attribute (both above (both below hold)) c.optional-attribute.ensures
    (c.both-2.ensures above (both below hold) c.optional-above.ensures
    (c.both.ensures below hold c.optional-below.ensures c.hold-hold.ensures)))))
