use Rattle.conf_laws.proofs.Templates.{sound_template}
use Rattle.conf_laws.proofs.laws.templates_are_sound.Goals as goal

pub returns : goal.returns
returns c = λ line n s. sound_template line n s
