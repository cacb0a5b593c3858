use Rattle.std.proofs.Common.{◌≡◌, ◌∙◌, ap}
use Rattle.crossbeam_channel.specs.Claims.{view}
use Rattle.bus_pass.specs.Journal.{IsRestless}
use Rattle.bus_pass.specs.Message.{Message, first_in, journal_in, origin_in, read_in}
use Rattle.bus_pass.specs.Reads.{Reading, prepared_in}
use Rattle.bus_pass.specs.Rule.{gave}
use Rattle.bus_pass.proofs.Moves.{may_give}
use Rattle.bus_pass.proofs.turn.Turn+C+K+Q.give.Goals as goal

pub send-requires-clause-may : goal.send-requires-clause-may
send-requires-clause-may g c κs within n port =
    rw c.close.ensures (may_give IsRestless journal_in first_in origin_in read_in n port (view c.args.pass.now) (c.args.bus, prepared_in g.C.Prepare.Prepare.reads c.of.result.value) (rw c.of.ensures c.requires.may))

pub returns-clause-gave : goal.returns-clause-gave
returns-clause-gave g c =
    let read = g.C.Prepare.Prepare.reads in
    let sent : c.close.result ≡ (c.args.bus, prepared_in read c.args.read) = c.close.ensures ∙ ap (λ (r : Reading). (c.args.bus, prepared_in read r)) c.of.ensures in
    c.send.ensures.gave ∙ ap (λ (m : Message). gave (view c.args.pass.now) (journal_in m) (read_in m) (first_in m) (origin_in m)) sent
