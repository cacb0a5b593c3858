use Rattle.state_laws.proofs.StateLaws.{restart-keeps, states-anew, states-helper, states-report, states-gone, states-restart, states-other}
use Rattle.state_laws.proofs.laws.states_of_one_more.Goals as goal

pub returns-clause-anew : goal.returns-clause-anew
returns-clause-anew c j x e = states-anew j e x

pub returns-clause-report : goal.returns-clause-report
returns-clause-report c j e entity k n text attributes other free = states-report j e entity k n other free text attributes

pub returns-clause-gone : goal.returns-clause-gone
returns-clause-gone c j e entity k n other free = states-gone j e entity k n other free

pub returns-clause-restart : goal.returns-clause-restart
returns-clause-restart c = states-restart

pub returns-clause-kept : goal.returns-clause-kept
returns-clause-kept c = restart-keeps

pub returns-clause-helper : goal.returns-clause-helper
returns-clause-helper c j e x h other named = states-helper j e x h other named

pub returns-clause-other : goal.returns-clause-other
returns-clause-other c j e x = states-other j e x
