use Rattle.whole_laws.proofs.StoreLemmas.{store-stays}
use Rattle.whole_laws.proofs.laws.the_store_stays.Goals as goal

pub returns : goal.returns
returns c = store-stays
