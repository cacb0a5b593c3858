use Rattle.std.proofs.Common.{arith}
use Rattle.std.proofs.lemmas.Bool.Decides.{nat_tests}
use Rattle.trig_set.proofs.recent.is_over.Goals as goal

pub returns : goal.returns
returns c is = grind (arith, nat_tests, is)
