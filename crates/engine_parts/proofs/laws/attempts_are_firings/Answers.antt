use Rattle.engine_parts.proofs.OrderLemmas.{attempts-ordered}
use Rattle.engine_parts.proofs.laws.attempts_are_firings.Goals as goal

pub returns : goal.returns
returns c = λ j p os few up on. attempts-ordered j p os few up on
