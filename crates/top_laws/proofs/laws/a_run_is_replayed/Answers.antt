use Rattle.top_laws.proofs.PlayedAgain.{played-again}
use Rattle.top_laws.proofs.RunReplayed.{run-traced, trace-replayed}
use Rattle.top_laws.proofs.laws.a_run_is_replayed.Goals as goal

pub returns-clause-traced : goal.returns-clause-traced
returns-clause-traced c = run-traced

pub returns-clause-replayed : goal.returns-clause-replayed
returns-clause-replayed c = trace-replayed

pub returns-clause-again : goal.returns-clause-again
returns-clause-again c = played-again
