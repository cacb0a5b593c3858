use Rattle.engine_parts.proofs.OwnerLemmas.{waits-told}
use Rattle.engine_parts.proofs.laws.firings_tell_waits.Goals as goal

pub returns : goal.returns
returns c = waits-told
