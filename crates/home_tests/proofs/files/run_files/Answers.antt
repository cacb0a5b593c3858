use denote.Param.Send.{sendable}
use Rattle.std.proofs.Crossing.{crosses}
use Rattle.engine_sends.proofs.Engines.{machine_send}
use Rattle.home_tests.proofs.files.run_files.Goals as goal

pub hearth-requires-send-E : goal.hearth-requires-send-E
hearth-requires-send-E g c κs = search (machine_send, crosses, sendable) depth 60 fits 20000
