use Rattle.ha_rehearse.proofs.SameLemmas.{same_rehearsals}
use Rattle.ha_rehearse.proofs.laws.rehearsals_are_alike.Goals as goal

pub returns : goal.returns
returns c = same_rehearsals
