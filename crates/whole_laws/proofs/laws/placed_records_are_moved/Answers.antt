use Rattle.std.proofs.Common.{refl}
use Rattle.whole_laws.proofs.laws.placed_records_are_moved.Goals as goal

pub returns : goal.returns
returns c = λ n s rs. refl
