use Rattle.ha_journal.proofs.SwitchLemmas.{on-more, on-told}
use Rattle.ha_laws.proofs.laws.switches_of_one_more.Goals as goal

pub returns-clause-told : goal.returns-clause-told
returns-clause-told c = on-told

pub returns-clause-kept : goal.returns-clause-kept
returns-clause-kept c = on-more
