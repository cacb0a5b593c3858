use Rattle.run_modes.proofs.EndLemmas.{ended-numbered}
use Rattle.run_modes.proofs.StopLemmas.{called-numbered}
use Rattle.run_modes.proofs.ChangeLaws.{stopped-numbered, attempted-numbered}
use Rattle.run_modes.proofs.laws.calls_keep_the_numbers.Goals as goal

pub returns-clause-called : goal.returns-clause-called
returns-clause-called c = λ serial rs h. called-numbered serial 0 rs h

pub returns-clause-ended : goal.returns-clause-ended
returns-clause-ended c = λ serial place cause rs h. ended-numbered place cause serial 0 rs h

pub returns-clause-stopped : goal.returns-clause-stopped
returns-clause-stopped c = stopped-numbered

pub returns-clause-attempted : goal.returns-clause-attempted
returns-clause-attempted c = attempted-numbered
