use Rattle.std.proofs.Common.{Option, subst}
use Rattle.yaml_scan.specs.Answers.{Gives}
use Rattle.yaml_scan.specs.declared.fault.Fault.{Fault}
use Rattle.conf_field.specs.declared.key.Key.TheVariants as key
use Rattle.conf_field.specs.Readings.{both, unless}
use Rattle.conf_field.specs.Fields.{optional, field}
use Rattle.conf_field.specs.Kinds as kinds
use Rattle.conf_trigger.specs.Triggers as triggers
use Rattle.conf_trigger.proofs.rules.side.Goals as goal

pub returns : goal.returns
returns c =
    let P : Option Fault → Type 0 = λ f. Gives (unless f) c.unless-alone.result in
    let pairs = c.args.pairs.now in
    let alone = unless (triggers.excluded c.args.plain c.args.negated pairs) in
    let given = optional triggers.texts_or_any (field c.args.plain pairs) in
    let others = optional triggers.none_of_texts (field c.args.negated pairs) in
    c.made_side.ensures (both alone (both given others))
    (c.both-2.ensures alone (both given others) (subst P c.excluded.ensures c.unless-alone.ensures)
    (c.both.ensures given others c.optional-given.ensures c.optional-others.ensures))
