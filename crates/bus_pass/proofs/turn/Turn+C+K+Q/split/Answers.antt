use Rattle.crossbeam_channel.specs.Claims.{view}
use Rattle.bus_pass.specs.Journal.{IsRestless}
use Rattle.bus_pass.specs.Message.{first_in, journal_in, origin_in}
use Rattle.bus_pass.proofs.Moves.{forks}
use Rattle.bus_pass.proofs.turn.Turn+C+K+Q.split.Goals as goal

pub another-requires-clause-rule : goal.another-requires-clause-rule
another-requires-clause-rule g c = forks IsRestless journal_in first_in origin_in c.args.pass.now.id (view c.args.pass.now) c.requires.first
