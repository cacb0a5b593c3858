use Rattle.std.proofs.Common.{◌∙◌, ap}
use Rattle.bus_turn.specs.Shown.{BusView, bus_view}
use Rattle.bus_turn.specs.States.{keeper_of, outside_of, sink_of}
use Rattle.bus_turn.proofs.PutLemmas.{ran-out}
use Rattle.bus_turn.proofs.bus.Bus.run_out.Goals as goal

pub invariant_of-self : goal.invariant_of-self
invariant_of-self g c =
    let s = sink_of g.K.Sink.written g.K.Sink.faults g.K.Sink.zeros g.K.Sink.name in
    let q = keeper_of g.Q.Keeper.kept g.Q.Keeper.faults in
    let b = c.self.inside in
    let old : BusView = bus_view (g.C.Core.entries b.core) (g.C.Core.runs b.core) (g.C.Core.is_spent b.core) (outside_of s q b.calls b.errors b.trace b.keep) b.first in
    ran-out old c.self.invariant (ap (λ (v : BusView). v.first) c.self.view_is ∙ c.requires)
