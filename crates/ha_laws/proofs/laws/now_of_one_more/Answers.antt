use Rattle.ha_journal.proofs.StateLemmas.{now-snoc}
use Rattle.ha_laws.proofs.laws.now_of_one_more.Goals as goal

pub returns : goal.returns
returns c = now-snoc
