use Rattle.script_step.proofs.SoundFew.{sound-few}
use Rattle.ha_engine.proofs.prepare.put.Goals as goal

pub put_script-requires : goal.put_script-requires
put_script-requires c = sound-few c.args.rule.now.actions c.requires
