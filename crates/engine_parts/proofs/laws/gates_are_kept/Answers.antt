use Rattle.engine_parts.proofs.SlotLemmas.{untouched-stays, listed-branches}
use Rattle.engine_parts.proofs.laws.gates_are_kept.Goals as goal

pub returns-clause-untouched : goal.returns-clause-untouched
returns-clause-untouched c = untouched-stays

pub returns-clause-listed : goal.returns-clause-listed
returns-clause-listed c = listed-branches
