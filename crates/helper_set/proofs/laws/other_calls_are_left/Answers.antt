use Rattle.ha_sight.proofs.HelperCalls.{left-if, left-only}
use Rattle.helper_set.proofs.laws.other_calls_are_left.Goals as goal

pub returns-clause-if_other : goal.returns-clause-if_other
returns-clause-if_other c = left-if

pub returns-clause-only_other : goal.returns-clause-only_other
returns-clause-only_other c = left-only
