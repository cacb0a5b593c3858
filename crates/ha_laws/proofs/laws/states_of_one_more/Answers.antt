use Rattle.ha_journal.proofs.StateLemmas.{reported-report, reported-gone, reported-restart, reported-other}
use Rattle.ha_laws.proofs.laws.states_of_one_more.Goals as goal

pub returns-clause-report : goal.returns-clause-report
returns-clause-report c j e entity k n text attributes = reported-report j e k n entity text attributes

pub returns-clause-gone : goal.returns-clause-gone
returns-clause-gone c j e entity k n = reported-gone j e k n entity

pub returns-clause-restart : goal.returns-clause-restart
returns-clause-restart c = reported-restart

pub returns-clause-other : goal.returns-clause-other
returns-clause-other c = reported-other
