use Rattle.bus_pass.specs.Journal.{IsRestless}
use Rattle.bus_pass.specs.Message.{first_in, journal_in, origin_in}
use Rattle.bus_pass.proofs.Moves.{takes, learns}
use Rattle.bus_pass.proofs.turn.Turn+C+K+Q.receive.Goals as goal

pub recv_as-requires-clause-rule : goal.recv_as-requires-clause-rule
recv_as-requires-clause-rule g c = (
  takes IsRestless journal_in first_in origin_in _ _,
  learns IsRestless journal_in first_in origin_in _ _,
)
