use Rattle.ha_config.specs.Equality.{same_automation}
use Rattle.ha_config.proofs.EqualityLemmas.{decided, rule-refl, rule-sound}
use Rattle.conf_reload.proofs.kinds.same_rules.Goals as goal

pub returns : goal.returns
returns c = decided same_automation rule-sound rule-refl c.same.result c.args.left.now c.args.right.now c.same.ensures
