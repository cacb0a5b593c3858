use Rattle.std.specs.Prelude.{option_map}
use Rattle.ha_journal.specs.EntryText.{trace_line}
use Rattle.bus_turn.specs.States.{sink_of}
use Rattle.bus_turn.proofs.SinkThen.{first-cut, then-second}
use Rattle.bus_turn.proofs.show.write_both.Goals as goal

pub returns-in-Err : goal.returns-in-Err
returns-in-Err g c =
    let s = sink_of g.K.Sink.written g.K.Sink.faults g.K.Sink.zeros g.K.Sink.name in
    let all = c.args.units.now in
    first-cut (trace_line all c.args.first.now) (trace_line all c.args.second.now) (option_map s c.args.trace.now) (option_map s c.write_trace.new.trace) c.in-Err.fault
    (rw c.in-Err.is at c.write_trace.ensures.writes)

pub returns : goal.returns
returns g c =
    let s = sink_of g.K.Sink.written g.K.Sink.faults g.K.Sink.zeros g.K.Sink.name in
    let all = c.args.units.now in
    then-second (trace_line all c.args.first.now) (trace_line all c.args.second.now) (option_map s c.args.trace.now) (option_map s c.write_trace.new.trace) (option_map s c.write_trace-2.new.trace) _
    (rw c.in-Ok.is at c.write_trace.ensures.writes) c.write_trace-2.ensures.writes
