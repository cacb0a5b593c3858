use Rattle.std.proofs.Common.{arith}
use Rattle.ha_model.proofs.LastEntry.{ok-then}
use Rattle.ha_engine.proofs.conclude.reserve_pairs.Goals as goal

pub returns-clause-room : goal.returns-clause-room
returns-clause-room c = ok-then c.reserve.result (λ ok. omega (arith, ok, c.len-calls.ensures)) c.reserve.ensures.ok
