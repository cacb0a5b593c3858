use Rattle.conf_auto.specs.Config as config
use Rattle.conf_auto.proofs.config.of_list.Goals as goal

pub returns : goal.returns
returns c = c.config_with.ensures (config.listed c.args.items.now) c.listed.ensures
