use Rattle.ha_laws.proofs.OrderLaws.{in-order}
use Rattle.ha_laws.proofs.laws.queued_runs_end_in_order.Goals as goal

pub returns : goal.returns
returns c = in-order
