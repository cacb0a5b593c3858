use Rattle.ha_laws.proofs.PrefixLaws.{ready-prefix}
use Rattle.ha_laws.proofs.laws.ready_of_the_past.Goals as goal

pub returns : goal.returns
returns c = ready-prefix
