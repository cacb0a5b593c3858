use Rattle.ha_rehearse.proofs.ConfigLemmas.{config_read}
use Rattle.ha_rehearse.proofs.laws.the_text_is_a_configuration.Goals as goal

pub returns : goal.returns
returns c = config_read
