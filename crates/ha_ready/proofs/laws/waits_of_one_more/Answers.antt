use Rattle.ha_ready.proofs.WaitLaws.{firings-more, wait-more}
use Rattle.ha_ready.proofs.laws.waits_of_one_more.Goals as goal

pub returns-clause-firings : goal.returns-clause-firings
returns-clause-firings c = firings-more

pub returns-clause-end : goal.returns-clause-end
returns-clause-end c = wait-more
