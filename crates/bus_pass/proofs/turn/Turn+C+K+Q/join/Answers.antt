use Rattle.crossbeam_channel.specs.Claims.{view}
use Rattle.bus_pass.specs.Journal.{IsRestless}
use Rattle.bus_pass.specs.Message.{first_in, journal_in, origin_in}
use Rattle.bus_pass.proofs.Moves.{merges}
use Rattle.bus_pass.proofs.turn.Turn+C+K+Q.join.Goals as goal

pub absorb-requires-clause-rule : goal.absorb-requires-clause-rule
absorb-requires-clause-rule g c = merges IsRestless journal_in first_in origin_in c.args.pass.now.id (view c.args.pass.now) c.args.other.id (view c.args.other) c.requires.idle.0 c.requires.idle.1 c.requires.later
