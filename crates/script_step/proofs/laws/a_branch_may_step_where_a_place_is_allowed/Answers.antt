use Rattle.std.proofs.Common.{refl, []}
use Rattle.script_step.proofs.MayLemmas.{exact}
use Rattle.script_step.proofs.laws.a_branch_may_step_where_a_place_is_allowed.Goals as goal

pub returns : goal.returns
returns c = λ f began s end tells. exact s.branch f.root f.script.value [] began s end f.settled refl tells
