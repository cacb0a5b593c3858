use Rattle.trace_laws.proofs.RunLemmas.{run_front}
use Rattle.trace_laws.proofs.laws.a_run_begins_with_runs.Goals as goal

pub returns : goal.returns
returns c = run_front
