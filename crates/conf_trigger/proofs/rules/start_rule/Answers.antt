use Rattle.conf_field.specs.Fields as fields
use Rattle.conf_field.specs.declared.key.Key.TheVariants as key
use Rattle.conf_field.specs.Kinds as kinds
use Rattle.conf_trigger.specs.Triggers as triggers
use Rattle.conf_trigger.proofs.rules.start_rule.Goals as goal

pub returns : goal.returns
returns c =
    c.made_start.ensures (fields.need key.Event c.args.line c.args.pairs.now triggers.start) c.needed.ensures
