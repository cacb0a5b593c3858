use Rattle.trig_set.proofs.OrderLemmas.{placed-ascend, without-ascend}
use Rattle.trig_set.proofs.laws.owners_ascend.Goals as goal

pub returns-clause-placed : goal.returns-clause-placed
returns-clause-placed c = placed-ascend

pub returns-clause-without : goal.returns-clause-without
returns-clause-without c = without-ascend
