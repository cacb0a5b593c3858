use Rattle.script_calls.proofs.SeenLemmas.{nobody-seen}
use Rattle.script_tests.proofs.home.seeing_of.Goals as goal

pub make-seeing-requires-clause-seen : goal.make-seeing-requires-clause-seen
make-seeing-requires-clause-seen c = nobody-seen c.args.home.now.states _ c.args.home.now.config c.args.zone.now _ c.args.helpers.now c.requires
