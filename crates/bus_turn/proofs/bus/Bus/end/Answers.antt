use Rattle.std.proofs.Common.{option_map}
use Rattle.bus_turn.specs.Shown.{BusView, bus_view}
use Rattle.bus_turn.specs.States.{keeper_of, outside_of, sink_of}
use Rattle.bus_turn.proofs.EndLemmas.{ended_so}
use Rattle.bus_turn.proofs.bus.Bus.end.Goals as goal

pub returns-clause-stands : goal.returns-clause-stands
returns-clause-stands g c =
    let s = sink_of g.K.Sink.written g.K.Sink.faults g.K.Sink.zeros g.K.Sink.name in
    let q = keeper_of g.Q.Keeper.kept g.Q.Keeper.faults in
    let b = c.self.inside in
    let old : BusView = bus_view (g.C.Core.entries b.core) (g.C.Core.runs b.core) (g.C.Core.is_spent b.core) (outside_of s q b.calls b.errors b.trace b.keep) b.first in
    ended_so old c.args.self c.journal.result.now c.write_end.result c.err-first.result (option_map s c.write_end.new.trace)
    c.self.view_is c.self.invariant c.requires.open c.journal.ensures.value c.err-first.ensures.value c.write_end.ensures.writes
