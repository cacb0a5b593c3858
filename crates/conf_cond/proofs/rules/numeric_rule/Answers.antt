use Rattle.std.proofs.Common.{Option, ◌∷◌, [], subst}
use Rattle.yaml_scan.specs.Answers.{Gives}
use Rattle.yaml_scan.specs.declared.fault.Fault.{Fault}
use Rattle.conf_field.specs.declared.key.Key.TheVariants as key
use Rattle.conf_field.specs.Readings.{both, unless}
use Rattle.conf_field.specs.Fields.{get, need, one_of, row}
use Rattle.conf_field.specs.Kinds as kinds
use Rattle.conf_cond.proofs.rules.numeric_rule.Goals as goal

pub returns : goal.returns
returns c =
    let P : Option Fault → Type 0 = λ f. Gives (unless f) c.unless-bounded.result in
    let pairs = c.args.pairs.now in
    let bounded = unless (one_of c.args.line (row key.Above ∷ row key.Below ∷ []) pairs) in
    let entities = need key.EntityId c.args.line pairs kinds.entities in
    let attribute = get key.Attribute pairs kinds.text in
    let above = get key.Above pairs kinds.number in
    let below = get key.Below pairs kinds.number in
    c.made_numeric.ensures (both bounded (both entities (both attribute (both above below))))
    (c.both-4.ensures bounded (both entities (both attribute (both above below))) (subst P c.one_of.ensures c.unless-bounded.ensures)
    (c.both-3.ensures entities (both attribute (both above below)) c.needed-entities.ensures
    (c.both-2.ensures attribute (both above below) c.optional-attribute.ensures
    (c.both.ensures above below c.optional-above.ensures c.optional-below.ensures))))
