use Rattle.ha_config.proofs.EqualLemmas.{decided, entity-sound, entity-along}
use Rattle.ha_config.proofs.sameness.same_id.Goals as goal

pub returns : goal.returns
returns c = decided _ _ c.same.ensures (entity-sound _ _) (entity-along _ _)
