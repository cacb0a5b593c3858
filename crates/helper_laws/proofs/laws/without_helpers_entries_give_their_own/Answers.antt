use Rattle.ha_journal.proofs.EventLaws.{number-own}
use Rattle.helper_laws.proofs.NoHelpers.{events-without, others-without}
use Rattle.helper_laws.proofs.laws.without_helpers_entries_give_their_own.Goals as goal

pub returns-clause-number : goal.returns-clause-number
returns-clause-number c e name x none = number-own e name x none

pub returns-clause-events : goal.returns-clause-events
returns-clause-events c j x none still = events-without j x none still

pub returns-clause-others : goal.returns-clause-others
returns-clause-others c j x none still e = others-without j x none still e
