use Rattle.engine_parts.proofs.StepRight.{allowed-open, step-right}
use Rattle.engine_parts.proofs.laws.picked_steps_are_right.Goals as goal

pub returns-clause-gate : goal.returns-clause-gate
returns-clause-gate c = allowed-open

pub returns-clause-right : goal.returns-clause-right
returns-clause-right c = step-right
