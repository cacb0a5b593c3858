use Rattle.ha_laws.proofs.HoldTests.{one-at-a-time}
use Rattle.ha_laws.proofs.laws.a_queue_takes_one.Goals as goal

pub returns : goal.returns
returns c = one-at-a-time
