use Rattle.script_calls.specs.Seen.{sees}
use Rattle.script_calls.proofs.seeing.Seeing.helped.Goals as goal

pub returns : goal.returns
returns c = c.in_ok-inner.ensures (sees c.args.self.now) c.args.self.now.seen
