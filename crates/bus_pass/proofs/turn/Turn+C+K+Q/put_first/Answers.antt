use Rattle.crossbeam_channel.specs.Claims.{view}
use Rattle.bus_pass.specs.Journal.{IsRestless}
use Rattle.bus_pass.specs.Message.{first_in, journal_in, origin_in, read_in}
use Rattle.bus_pass.specs.Reads.{prepared_in}
use Rattle.bus_pass.proofs.Moves.{first_give}
use Rattle.bus_pass.proofs.BootLemmas.{boot-alone, boot-room}
use Rattle.bus_pass.proofs.turn.Turn+C+K+Q.put_first.Goals as goal

pub send-requires-clause-may : goal.send-requires-clause-may
send-requires-clause-may g c κs within n port =
    let bus = c.args.bus in
    let stands = c.first.ensures.stands in
    let boot = c.requires.boot in
    rw c.close.ensures (first_give IsRestless journal_in first_in origin_in read_in n port (view c.args.pass.now) (bus, prepared_in g.C.Prepare.Prepare.reads c.of.result.value) c.requires.opening
    (boot-alone bus stands boot.0 boot.1) (boot-room bus stands boot.0 boot.1))
