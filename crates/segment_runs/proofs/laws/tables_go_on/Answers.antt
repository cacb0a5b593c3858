use Rattle.segment_runs.proofs.TableShift.{attempted-behind, called-behind, ended-behind, live-behind, stopped-behind}
use Rattle.segment_runs.proofs.laws.tables_go_on.Goals as goal

pub returns-clause-live : goal.returns-clause-live
returns-clause-live c = live-behind

pub returns-clause-stopped : goal.returns-clause-stopped
returns-clause-stopped c = stopped-behind

pub returns-clause-attempted : goal.returns-clause-attempted
returns-clause-attempted c = attempted-behind

pub returns-clause-ended : goal.returns-clause-ended
returns-clause-ended c = ended-behind

pub returns-clause-called : goal.returns-clause-called
returns-clause-called c = called-behind
