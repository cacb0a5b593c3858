use Rattle.std.proofs.Common.{◌∙◌}
use Rattle.ha_config.proofs.AutomationLemmas.{any-helper}
use Rattle.ha_config.proofs.names.is_helper.Goals as goal

pub returns : goal.returns
returns c = c.any_of_id.ensures ∙ any-helper c.args.all.now c.args.entity.now
