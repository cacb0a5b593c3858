use Rattle.engine_parts.proofs.SteppersRun.{line-agrees, line-waking}
use Rattle.engine_parts.proofs.laws.lines_wake_runs.Goals as goal

pub returns-clause-pairs : goal.returns-clause-pairs
returns-clause-pairs c = line-agrees

pub returns-clause-waking : goal.returns-clause-waking
returns-clause-waking c = line-waking
