use Rattle.std.proofs.Common.{◌∙◌, ap}
use Rattle.bus_turn.specs.Shown.{BusView}
use Rattle.bus_pass.specs.Journal.{IsRestless}
use Rattle.bus_pass.specs.Message.{first_in, journal_in, origin_in}
use Rattle.bus_pass.proofs.Moves.{begins}
use Rattle.bus_pass.proofs.BootLemmas.{boot-runs}
use Rattle.bus_pass.proofs.turn.Turn+C+K+Q.make.Goals as goal

pub bounded_with-requires-clause-rule : goal.bounded_with-requires-clause-rule
bounded_with-requires-clause-rule g c = begins IsRestless journal_in first_in origin_in

pub put_first-requires-clause-running : goal.put_first-requires-clause-running
put_first-requires-clause-running g c κs within =
    boot-runs c.in-Ok.held c.first.ensures.stands c.requires.boot.0 (ap (λ (b : BusView). b.journal) c.in-Ok.ensures.held ∙ c.requires.boot.1)
