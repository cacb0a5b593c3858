use Rattle.std.proofs.Common.{List, ◌++◌, subst}
use Rattle.std.specs.Prelude.{None, Some, option_map}
use Rattle.ha_config.specs.Words.{Text}
use Rattle.ha_journal.specs.EntryText.{trace_line}
use Rattle.bus_turn.specs.Shown.{saved_text}
use Rattle.bus_turn.specs.States.{keeper_of, sink_of}
use Rattle.bus_turn.specs.Writes.{WritesIn, fault_of}
use Rattle.bus_turn.proofs.SinkThen.{lines-cut, lines-then}
use Rattle.bus_turn.proofs.show.show_restart.Goals as goal
use Rattle.ha_whole.specs.Trace.{names}

pub returns-in-Err : goal.returns-in-Err
returns-in-Err g c =
    let s = sink_of g.K.Sink.written g.K.Sink.faults g.K.Sink.zeros g.K.Sink.name in
    let q = keeper_of g.Q.Keeper.kept g.Q.Keeper.faults in
    let j = g.C.Core.entries c.args.core.now in
    let o = option_map s c.args.trace.now in
    let o' = option_map s c.write_both.new.trace in
    λ calls errors.
    lines-cut (trace_line (names j) c.args.restart.now ++ trace_line (names j) c.args.again.now) (saved_text j) calls errors o o' (q c.args.keep.now) (q c.args.keep.now) c.in-Err.fault
    (subst (λ (all : List Text). WritesIn (trace_line all c.args.restart.now ++ trace_line all c.args.again.now) o (Some c.in-Err.fault) o') c.units.ensures (rw c.in-Err.is at c.write_both.ensures))

pub returns : goal.returns
returns g c =
    let s = sink_of g.K.Sink.written g.K.Sink.faults g.K.Sink.zeros g.K.Sink.name in
    let q = keeper_of g.Q.Keeper.kept g.Q.Keeper.faults in
    let j = g.C.Core.entries c.args.core.now in
    let o = option_map s c.args.trace.now in
    let o' = option_map s c.write_both.new.trace in
    λ calls errors.
    lines-then (trace_line (names j) c.args.restart.now ++ trace_line (names j) c.args.again.now) (saved_text j) calls errors o o' (q c.args.keep.now) (q c.save.new.keep) (fault_of c.save.result)
    (subst (λ (all : List Text). WritesIn (trace_line all c.args.restart.now ++ trace_line all c.args.again.now) o None o') c.units.ensures (rw c.in-Ok.is at c.write_both.ensures)) c.save.ensures
