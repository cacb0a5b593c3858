use Rattle.std.proofs.Common.{refl}
use Rattle.ha_engine.proofs.follow.follow_report.Goals as goal

pub follow_left-requires : goal.follow_left-requires
follow_left-requires c = record { pushed = c.requires.pushed; left = c.in-None.ensures.left.0 refl }
