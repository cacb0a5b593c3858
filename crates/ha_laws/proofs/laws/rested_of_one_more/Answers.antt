use Rattle.ha_model.proofs.RestedLaws.{rested-more}
use Rattle.ha_laws.proofs.laws.rested_of_one_more.Goals as goal

pub returns : goal.returns
returns c = rested-more
