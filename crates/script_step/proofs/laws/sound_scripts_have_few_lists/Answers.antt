use Rattle.script_step.proofs.SoundFew.{sound-few}
use Rattle.script_step.proofs.laws.sound_scripts_have_few_lists.Goals as goal

pub returns : goal.returns
returns c = sound-few
