use Rattle.wait_set.proofs.BareLemmas.{bare-left}
use Rattle.wait_set.proofs.FinishLemmas.{finished-wait}
use Rattle.wait_set.proofs.laws.a_call_waits_until_its_end_is_named.Goals as goal

pub returns-clause-named : goal.returns-clause-named
returns-clause-named c = finished-wait

pub returns-clause-stays : goal.returns-clause-stays
returns-clause-stays c = bare-left
