use Rattle.std.proofs.Common.{Option, subst}
use Rattle.yaml_scan.specs.Answers.{Gives}
use Rattle.yaml_scan.specs.declared.fault.Fault.{Fault}
use Rattle.conf_field.specs.Fields as fields
use Rattle.conf_field.specs.declared.key.Key.TheVariants as key
use Rattle.conf_field.specs.Readings.{both, unless}
use Rattle.conf_field.specs.Fields.{row}
use Rattle.conf_field.specs.Kinds as kinds
use Rattle.conf_trigger.specs.Triggers as triggers
use Rattle.std.proofs.Common.{◌∷◌, []}
use Rattle.conf_trigger.proofs.more_rules.pattern_rule.Goals as goal

pub returns : goal.returns
returns c =
    let P : Option Fault → Type 0 = λ f. Gives (unless f) c.unless-some.result in
    let pairs = c.args.pairs.now in
    let one = unless (fields.one_of c.args.line (row key.Hours ∷ row key.Minutes ∷ row key.Seconds ∷ []) pairs) in
    let hours = fields.get key.Hours pairs (triggers.unit_under 24) in
    let minutes = fields.get key.Minutes pairs (triggers.unit_under 60) in
    let seconds = fields.get key.Seconds pairs (triggers.unit_under 60) in
    c.made_pattern.ensures (both one (both hours (both minutes seconds)))
    (c.both-3.ensures one (both hours (both minutes seconds)) (subst P c.one_of.ensures c.unless-some.ensures)
    (c.both-2.ensures hours (both minutes seconds) c.optional-hours.ensures
    (c.both.ensures minutes seconds c.optional-minutes.ensures c.optional-seconds.ensures)))
