use Rattle.conf_laws.proofs.Conditions.{conditions_sound}
use Rattle.conf_laws.proofs.laws.conditions_are_sound.Goals as goal

pub returns : goal.returns
returns c = λ n s. conditions_sound n s
