use Rattle.ha_config.specs.Equality.{same_script}
use Rattle.ha_config.proofs.EqualityLemmas.{decided, script-refl, script-sound}
use Rattle.conf_reload.proofs.kinds.same_scripts.Goals as goal

pub returns : goal.returns
returns c = decided same_script script-sound script-refl c.same.result c.args.one.now c.args.other.now c.same.ensures
