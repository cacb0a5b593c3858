use Rattle.conf_field.specs.Fields as fields
use Rattle.conf_field.specs.declared.key.Key.TheVariants as key
use Rattle.conf_field.specs.Readings.{both}
use Rattle.conf_field.specs.Kinds as kinds
use Rattle.conf_trigger.specs.Triggers as triggers
use Rattle.conf_trigger.proofs.rules.template_rule.Goals as goal

pub returns : goal.returns
returns c =
    let source = fields.need key.ValueTemplate c.args.line c.args.pairs.now kinds.template in
    let hold = triggers.hold c.args.pairs.now in
    c.made_template.ensures (both source hold) (c.both.ensures source hold c.needed-template.ensures c.hold.ensures)
