use Rattle.ha_value.proofs.PrintLemmas.{id_is_read}
use Rattle.ha_value.proofs.laws.id_is_read.Goals as goal

pub returns : goal.returns
returns c = id_is_read c.args.id.now c.requires
