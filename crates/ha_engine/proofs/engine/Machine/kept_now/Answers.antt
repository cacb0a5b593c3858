use Rattle.ha_engine.proofs.engine.Machine.kept_now.Goals as goal

pub returns-clause-switches : goal.returns-clause-switches
returns-clause-switches c = c.in_ok-switches.ensures

pub returns-clause-moments : goal.returns-clause-moments
returns-clause-moments c = c.in_ok-moments.ensures.moments
