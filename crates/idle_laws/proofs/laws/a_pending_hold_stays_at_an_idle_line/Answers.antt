use Rattle.idle_laws.proofs.IdleHolds.{moves-still, pending-stays}
use Rattle.idle_laws.proofs.laws.a_pending_hold_stays_at_an_idle_line.Goals as goal

pub returns-clause-moves : goal.returns-clause-moves
returns-clause-moves c = moves-still

pub returns-clause-pending : goal.returns-clause-pending
returns-clause-pending c = pending-stays
