use Rattle.ha_config.specs.Sound.{may_hold}
use Rattle.trigger_tests.proofs.TestLemmas.{held-well}
use Rattle.trigger_tests.proofs.triggers.held.Goals as goal

pub trigger-requires-clause-held : goal.trigger-requires-clause-held
trigger-requires-clause-held c = held-well c.five_seconds-hold.result (may_hold c.args.rule) c.five_seconds-hold.ensures c.requires.may
