use denote.Param.Send.{sendable}
use Rattle.std.proofs.Crossing.{crosses}
use Rattle.engine_sends.proofs.Engines.{machine_send}
use Rattle.replay_tests.proofs.judged.replayed.Goals as goal

pub replay_call-status-requires-send-E : goal.replay_call-status-requires-send-E
replay_call-status-requires-send-E c κs = search (machine_send, crosses, sendable) depth 60 fits 20000
