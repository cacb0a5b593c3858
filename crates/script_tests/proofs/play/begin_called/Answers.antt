use Rattle.script_tests.proofs.HomeLemmas.{few-called, sound-called}
use Rattle.script_tests.proofs.play.begin_called.Goals as goal

pub start-requires : goal.start-requires
start-requires c = few-called c.in-Some.script.now (sound-called c.args.config.now c.in-Some.script.now c.requires c.in-Some.ensures.value)
