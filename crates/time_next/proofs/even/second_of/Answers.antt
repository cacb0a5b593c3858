use Rattle.std.proofs.Common.{arith}
use Rattle.jiff_core.proofs.SignedLemmas.{signed_casts}
use Rattle.time_next.proofs.even.second_of.Goals as goal

pub returns-else-second-lt0 : goal.returns-else-second-lt0
returns-else-second-lt0 c = λ s less. omega (arith, signed_casts, less)
