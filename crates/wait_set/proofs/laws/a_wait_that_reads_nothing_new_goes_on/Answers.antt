use Rattle.wait_set.proofs.QuietLemmas.{quiet-one}
use Rattle.wait_set.proofs.laws.a_wait_that_reads_nothing_new_goes_on.Goals as goal

pub returns : goal.returns
returns c = quiet-one
