use Rattle.engine_parts.proofs.ApartLemmas as apart
use Rattle.engine_parts.proofs.ReadyOneMore.{branches-stay}
use Rattle.engine_parts.proofs.laws.untouched_runs_stay.Goals as goal

pub returns : goal.returns
returns c = branches-stay
