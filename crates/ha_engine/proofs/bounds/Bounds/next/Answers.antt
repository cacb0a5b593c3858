use Rattle.std.proofs.Common.{refl}
use Rattle.ha_engine.proofs.bounds.Bounds.next.Goals as goal

pub returns : goal.returns
returns c = record { front_is = refl; base_is = refl; segments_are = refl; limit = c.limit_behind.ensures }
