use Rattle.conf_laws.proofs.Triggers.{triggers_sound}
use Rattle.conf_laws.proofs.laws.triggers_are_sound.Goals as goal

pub returns : goal.returns
returns c = λ n s. triggers_sound n s
