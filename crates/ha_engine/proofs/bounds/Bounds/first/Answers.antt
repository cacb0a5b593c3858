use Rattle.std.proofs.Common.{inl, refl, arith}
use Rattle.ha_engine.proofs.bounds.Bounds.first.Goals as goal

pub returns : goal.returns
returns c = record { front_is = refl; base_is = refl; segments_are = refl; limit = record { own = omega arith; all = omega arith; is = inl (omega arith) } }
