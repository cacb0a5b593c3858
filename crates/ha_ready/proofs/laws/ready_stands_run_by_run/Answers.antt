use Rattle.std.proofs.Common.{arith}
use Rattle.ha_ready.proofs.ReadyLemmas.{ready-pairs, change-run}
use Rattle.ha_ready.proofs.laws.ready_stands_run_by_run.Goals as goal

pub returns-clause-ready : goal.returns-clause-ready
returns-clause-ready c = ready-pairs

pub returns-clause-change : goal.returns-clause-change
returns-clause-change c = λ m s bs by lt le. change-run 0 m s bs by lt (omega arith)
