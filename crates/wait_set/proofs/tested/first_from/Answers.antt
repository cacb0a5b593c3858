use Rattle.std.proofs.Common.{arith}
use Rattle.wait_set.proofs.tested.first_from.Goals as goal

pub returns-else-ordered : goal.returns-else-ordered
returns-else-ordered c n d before lt = absurd (omega (arith, before))
