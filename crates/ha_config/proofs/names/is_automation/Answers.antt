use Rattle.std.proofs.Common.{◌∙◌}
use Rattle.ha_config.proofs.AutomationLemmas.{any-named}
use Rattle.ha_config.proofs.names.is_automation.Goals as goal

pub returns : goal.returns
returns c = c.any_named.ensures ∙ any-named c.args.all.now c.args.name.now
