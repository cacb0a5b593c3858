use Rattle.action_laws.proofs.SoundActions.{actions_sound}
use Rattle.action_laws.proofs.laws.read_actions_are_sound.Goals as goal

pub returns : goal.returns
returns c = actions_sound
