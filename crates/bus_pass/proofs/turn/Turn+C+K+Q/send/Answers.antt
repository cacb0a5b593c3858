use Rattle.bus_pass.specs.Journal.{IsRestless}
use Rattle.bus_pass.specs.Message.{first_in, journal_in, origin_in}
use Rattle.bus_pass.proofs.Moves.{learns}
use Rattle.bus_pass.proofs.turn.Turn+C+K+Q.send.Goals as goal

pub send_as-requires-clause-rule : goal.send_as-requires-clause-rule
send_as-requires-clause-rule g c = (
  rw (c.loop.invariant.1, c.loop.invariant.2) (c.requires.may _ _),
  learns IsRestless journal_in first_in origin_in _ _,
)
