use Rattle.run_modes.proofs.ChangeLaws.{called-record, ended-record, stopped-record, attempted-record, attempted-newest}
use Rattle.run_modes.proofs.laws.calls_change_records.Goals as goal

pub returns-clause-called : goal.returns-clause-called
returns-clause-called c = called-record

pub returns-clause-ended : goal.returns-clause-ended
returns-clause-ended c = ended-record

pub returns-clause-stopped : goal.returns-clause-stopped
returns-clause-stopped c = stopped-record

pub returns-clause-attempted : goal.returns-clause-attempted
returns-clause-attempted c = attempted-record

pub returns-clause-newest : goal.returns-clause-newest
returns-clause-newest c = attempted-newest
