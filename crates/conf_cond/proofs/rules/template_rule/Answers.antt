use Rattle.conf_field.specs.declared.key.Key.TheVariants as key
use Rattle.conf_field.specs.Fields.{need}
use Rattle.conf_field.specs.Kinds as kinds
use Rattle.conf_cond.proofs.rules.template_rule.Goals as goal

pub returns : goal.returns
returns c = c.made_template.ensures (need key.ValueTemplate c.args.line c.args.pairs.now kinds.template) c.needed.ensures
