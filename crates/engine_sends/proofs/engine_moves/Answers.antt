use denote.Param.Send.{sendable}
use Rattle.std.proofs.Crossing.{crosses}
use Rattle.engine_sends.proofs.Engines.{machine_send}
use Rattle.engine_sends.proofs.engine_moves.Goals as goal

pub hand_over-requires-send-E : goal.hand_over-requires-send-E
hand_over-requires-send-E g c κs = search (machine_send, crosses, sendable) depth 60 fits 20000
