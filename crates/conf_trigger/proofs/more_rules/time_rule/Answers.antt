use Rattle.conf_field.specs.Fields as fields
use Rattle.conf_field.specs.declared.key.Key.TheVariants as key
use Rattle.conf_field.specs.Kinds as kinds
use Rattle.conf_trigger.specs.Triggers as triggers
use Rattle.conf_trigger.proofs.more_rules.time_rule.Goals as goal

pub returns : goal.returns
returns c =
    c.made_time.ensures (fields.need key.At c.args.line c.args.pairs.now (kinds.several kinds.time)) c.needed.ensures
