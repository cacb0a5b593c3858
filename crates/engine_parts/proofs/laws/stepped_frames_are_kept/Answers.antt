use Rattle.engine_parts.proofs.StepKept.{stepped-kept}
use Rattle.engine_parts.proofs.laws.stepped_frames_are_kept.Goals as goal

pub returns : goal.returns
returns c = stepped-kept
