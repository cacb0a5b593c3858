use Rattle.ha_ready.proofs.RunPast.{all-past, running-stays, ended-rests, begun-runs}
use Rattle.ha_ready.proofs.laws.records_tell_the_past.Goals as goal

pub returns-clause-past : goal.returns-clause-past
returns-clause-past c = all-past

pub returns-clause-stays : goal.returns-clause-stays
returns-clause-stays c = running-stays

pub returns-clause-ended : goal.returns-clause-ended
returns-clause-ended c = ended-rests

pub returns-clause-begun : goal.returns-clause-begun
returns-clause-begun c = begun-runs
