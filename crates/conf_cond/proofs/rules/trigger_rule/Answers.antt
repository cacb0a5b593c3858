use Rattle.conf_field.specs.declared.key.Key.TheVariants as key
use Rattle.conf_field.specs.Fields.{need}
use Rattle.conf_field.specs.Kinds as kinds
use Rattle.conf_cond.proofs.rules.trigger_rule.Goals as goal

pub returns : goal.returns
returns c = c.made_trigger.ensures (need key.Id c.args.line c.args.pairs.now kinds.texts) c.needed.ensures
