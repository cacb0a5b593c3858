use Rattle.ha_ready.proofs.OneMove.{one-move}
use Rattle.ha_ready.proofs.laws.a_firing_counts_from_one_entry.Goals as goal

pub returns : goal.returns
returns c = one-move
