use Rattle.ha_past.proofs.RestartLemmas.{fires-not, restart-attempts-none, restart-passes-none}
use Rattle.ha_past.proofs.laws.a_restart_attempts_nothing.Goals as goal

pub returns-clause-fires : goal.returns-clause-fires
returns-clause-fires c = fires-not

pub returns-clause-attempts : goal.returns-clause-attempts
returns-clause-attempts c = restart-attempts-none

pub returns-clause-passing : goal.returns-clause-passing
returns-clause-passing c = restart-passes-none
