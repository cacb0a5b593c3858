use Rattle.std.proofs.Common.{ap}
use Rattle.std.specs.Prelude.{None, Some}
use Rattle.bus_turn.specs.States.{keeper_of, outside_of, sink_of}
use Rattle.bus_turn.specs.Writes.{fault_of}
use Rattle.bus_turn.proofs.LastLemmas.{all-shown, on-any}
use Rattle.bus_turn.proofs.show.write_put.Goals as goal

pub returns-in-Ok-show_put-clause-ok : goal.returns-in-Ok-show_put-clause-ok
returns-in-Ok-show_put-clause-ok g c =
    let s = sink_of g.K.Sink.written g.K.Sink.faults g.K.Sink.zeros g.K.Sink.name in
    let q = keeper_of g.Q.Keeper.kept g.Q.Keeper.faults in
    let a = c.args in
    let out = c.show_put.new in
    on-any a.put _
    (all-shown (g.C.Core.entries a.core.now) (g.C.Core.runs a.core.now) (outside_of s q a.calls.now a.errors.now a.trace.now a.keep.now) (outside_of s q out.calls out.errors out.trace out.keep)
    (fault_of c.show_put.result) None (ap fault_of c.in-Ok-show_put.is) c.show_put.ensures)

pub returns-in-Err-clause-ok : goal.returns-in-Err-clause-ok
returns-in-Err-clause-ok g c =
    let s = sink_of g.K.Sink.written g.K.Sink.faults g.K.Sink.zeros g.K.Sink.name in
    let q = keeper_of g.Q.Keeper.kept g.Q.Keeper.faults in
    let a = c.args in
    let out = c.show_put.new in
    on-any a.put _
    (all-shown (g.C.Core.entries a.core.now) (g.C.Core.runs a.core.now) (outside_of s q a.calls.now a.errors.now a.trace.now a.keep.now) (outside_of s q out.calls out.errors out.trace out.keep)
    (fault_of c.show_put.result) (Some c.in-Err.fault) (ap fault_of c.in-Err.is) c.show_put.ensures)
