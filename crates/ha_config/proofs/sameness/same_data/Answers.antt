use Rattle.ha_config.proofs.EqualLemmas.{decided, same_pairs-sound, same_pairs-along}
use Rattle.ha_config.proofs.sameness.same_data.Goals as goal

pub returns : goal.returns
returns c = decided _ _ c.same.ensures (same_pairs-sound _ _) (same_pairs-along _ _)
