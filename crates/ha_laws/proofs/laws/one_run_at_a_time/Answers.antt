use Rattle.ha_laws.proofs.OneStep.{ended-quiet, begun-ready, quiet-rested, line-busy}
use Rattle.ha_laws.proofs.laws.one_run_at_a_time.Goals as goal

pub returns-clause-ended : goal.returns-clause-ended
returns-clause-ended c = ended-quiet

pub returns-clause-begun : goal.returns-clause-begun
returns-clause-begun c = begun-ready

pub returns-clause-rested : goal.returns-clause-rested
returns-clause-rested c = quiet-rested

pub returns-clause-busy : goal.returns-clause-busy
returns-clause-busy c = line-busy
