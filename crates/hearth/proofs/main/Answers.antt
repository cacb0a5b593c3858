use denote.Param.Send.{sendable}
use Rattle.std.proofs.Crossing.{crosses}
use Rattle.engine_sends.proofs.Engines.{machine_send}
use Rattle.hearth.proofs.main.Goals as goal

pub hearth-outcome-requires-send-E : goal.hearth-outcome-requires-send-E
hearth-outcome-requires-send-E c κs = search (machine_send, crosses, sendable) depth 60 fits 20000
