use Rattle.engine_parts.proofs.StepWakes.{step-agrees, step-waking}
use Rattle.engine_parts.proofs.laws.steps_wake_runs.Goals as goal

pub returns-clause-pairs : goal.returns-clause-pairs
returns-clause-pairs c = step-agrees

pub returns-clause-waking : goal.returns-clause-waking
returns-clause-waking c = step-waking
