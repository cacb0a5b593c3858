use Rattle.script_tests.proofs.HomeLemmas.{few-of, sound-first}
use Rattle.script_tests.proofs.play.begin.Goals as goal

pub start-requires : goal.start-requires
start-requires c = few-of c.in-Some.rule.now (sound-first c.args.config.now c.in-Some.rule.now c.requires c.in-Some.ensures.value)
