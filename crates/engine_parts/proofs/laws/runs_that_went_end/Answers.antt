use Rattle.engine_parts.proofs.GoneLemmas.{gone-ended}
use Rattle.engine_parts.proofs.laws.runs_that_went_end.Goals as goal

pub returns : goal.returns
returns c = gone-ended
