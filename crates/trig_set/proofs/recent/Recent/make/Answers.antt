use Rattle.std.proofs.Common.{refl}
use Rattle.trig_set.proofs.recent.Recent.make.Goals as goal

pub returns : goal.returns
returns c place = record { noted = refl; latest = refl }
