use Rattle.std.proofs.Common.{Option, ◌∷◌, [], subst}
use Rattle.yaml_scan.specs.Answers.{Gives}
use Rattle.yaml_scan.specs.declared.fault.Fault.{Fault}
use Rattle.conf_field.specs.declared.key.Key.TheVariants as key
use Rattle.conf_field.specs.Readings.{both, unless}
use Rattle.conf_field.specs.Fields.{get, one_of, row}
use Rattle.conf_field.specs.Kinds as kinds
use Rattle.conf_cond.specs.Conditions as conditions
use Rattle.conf_cond.proofs.rules.time_rule.Goals as goal

pub returns : goal.returns
returns c =
    let P : Option Fault → Type 0 = λ f. Gives (unless f) c.unless-some.result in
    let pairs = c.args.pairs.now in
    let some = unless (one_of c.args.line (row key.After ∷ row key.Before ∷ row key.Weekday ∷ []) pairs) in
    let after = get key.After pairs kinds.time in
    let before = get key.Before pairs kinds.time in
    let weekdays = get key.Weekday pairs (kinds.several conditions.weekday) in
    c.made_time.ensures (both some (both after (both before weekdays)))
    (c.both-3.ensures some (both after (both before weekdays)) (subst P c.one_of.ensures c.unless-some.ensures)
    (c.both-2.ensures after (both before weekdays) c.optional-after.ensures
    (c.both.ensures before weekdays c.optional-before.ensures c.optional-weekdays.ensures)))
