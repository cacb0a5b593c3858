use Rattle.ha_ready.proofs.RestedFlags.{rested-kept}
use Rattle.ha_ready.proofs.laws.rested_flags_are_kept.Goals as goal

pub returns : goal.returns
returns c = rested-kept
