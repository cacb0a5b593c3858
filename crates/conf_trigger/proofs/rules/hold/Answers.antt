use Rattle.conf_field.specs.Fields as fields
use Rattle.conf_field.specs.declared.key.Key.TheVariants as key
use Rattle.conf_field.specs.Fields.{optional}
use Rattle.conf_field.specs.Kinds as kinds
use Rattle.conf_field.specs.Spans.{span}
use Rattle.conf_trigger.specs.Triggers as triggers
use Rattle.conf_trigger.proofs.rules.hold.Goals as goal

pub returns : goal.returns
returns c =
    c.some_span.ensures (fields.get key.For c.args.pairs.now span) c.optional.ensures
