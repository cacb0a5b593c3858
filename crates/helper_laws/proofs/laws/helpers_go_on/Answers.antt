use Rattle.ha_journal.proofs.HelperLaws.{due-more, helper-more, helper-seen, last-change-more, text-more}
use Rattle.helper_laws.proofs.laws.helpers_go_on.Goals as goal

pub returns-clause-text : goal.returns-clause-text
returns-clause-text c j x h = text-more j x h

pub returns-clause-state : goal.returns-clause-state
returns-clause-state c j x h = helper-more j x h

pub returns-clause-last : goal.returns-clause-last
returns-clause-last c j x e = last-change-more j x e

pub returns-clause-due : goal.returns-clause-due
returns-clause-due c j x e = due-more j x e

pub returns-clause-seen : goal.returns-clause-seen
returns-clause-seen c j h there = helper-seen j h there
