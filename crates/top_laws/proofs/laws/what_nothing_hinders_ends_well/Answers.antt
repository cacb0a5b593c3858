use Rattle.top_laws.proofs.Completeness.{run-ends-well, check-ends-well}
use Rattle.top_laws.proofs.ReplayEnds.{rehearse-ends-well, replay-ends-well}
use Rattle.top_laws.proofs.laws.what_nothing_hinders_ends_well.Goals as goal

pub returns-clause-run : goal.returns-clause-run
returns-clause-run c = run-ends-well

pub returns-clause-check : goal.returns-clause-check
returns-clause-check c = check-ends-well

pub returns-clause-replay : goal.returns-clause-replay
returns-clause-replay c = replay-ends-well

pub returns-clause-rehearse : goal.returns-clause-rehearse
returns-clause-rehearse c = rehearse-ends-well
