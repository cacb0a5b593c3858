use Rattle.std.proofs.Common.{refl}
use Rattle.cond_eval.proofs.view.View.make.Goals as goal

pub returns-clause-seen : goal.returns-clause-seen
returns-clause-seen c = refl

pub returns-clause-config : goal.returns-clause-config
returns-clause-config c = refl

pub returns-clause-numbers : goal.returns-clause-numbers
returns-clause-numbers c = refl
