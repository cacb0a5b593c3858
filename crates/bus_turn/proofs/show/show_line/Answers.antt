use Rattle.std.proofs.Common.{List, subst}
use Rattle.std.specs.Prelude.{option_map}
use Rattle.ha_config.specs.Words.{Text}
use Rattle.ha_journal.specs.EntryText.{trace_line}
use Rattle.bus_turn.specs.States.{sink_of}
use Rattle.bus_turn.specs.Writes.{WritesIn, fault_of}
use Rattle.bus_turn.proofs.show.show_line.Goals as goal

pub returns : goal.returns
returns g c =
    let s = sink_of g.K.Sink.written g.K.Sink.faults g.K.Sink.zeros g.K.Sink.name in
    subst (λ (all : List Text). WritesIn (trace_line all c.args.entry.now) (option_map s c.args.trace.now) (fault_of c.write_trace.result) (option_map s c.write_trace.new.trace))
    c.units.ensures c.write_trace.ensures.writes
