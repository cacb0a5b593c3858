use Rattle.conf_field.specs.Fields as fields
use Rattle.conf_field.specs.declared.key.Key.TheVariants as key
use Rattle.conf_field.specs.Readings.{both}
use Rattle.conf_field.specs.Fields.{optional}
use Rattle.conf_field.specs.Kinds as kinds
use Rattle.conf_trigger.specs.Triggers as triggers
use Rattle.conf_field.specs.Values.{data_without_templates}
use Rattle.conf_trigger.proofs.more_rules.event_rule.Goals as goal

pub returns : goal.returns
returns c =
    let named = fields.need key.EventType c.args.line c.args.pairs.now kinds.texts in
    let given = fields.get key.EventData c.args.pairs.now data_without_templates in
    c.made_event.ensures (both named given) (c.both.ensures named given c.needed-kinds.ensures c.optional.ensures)
