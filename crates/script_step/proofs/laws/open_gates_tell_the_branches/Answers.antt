use Rattle.script_step.proofs.ListedLemmas.{fronts-are}
use Rattle.script_step.proofs.laws.open_gates_tell_the_branches.Goals as goal

pub returns : goal.returns
returns c = fronts-are
