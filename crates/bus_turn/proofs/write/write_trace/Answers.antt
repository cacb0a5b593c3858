use Rattle.std.proofs.Common.{ap}
use Rattle.std.specs.Prelude.{option_map}
use Rattle.ha_journal.specs.EntryText.{trace_line}
use Rattle.bus_turn.specs.States.{sink_state}
use Rattle.bus_turn.proofs.WriteLemmas.{writes-in}
use Rattle.bus_turn.proofs.write.write_trace.Goals as goal

pub returns-in-Some-clause-writes : goal.returns-in-Some-clause-writes
returns-in-Some-clause-writes g c =
    writes-in (trace_line c.args.units.now c.args.entry.now) _ _ _ _ (ap (option_map (λ k. sink_state (g.K.Sink.written k) (g.K.Sink.faults k) (g.K.Sink.zeros k) (g.K.Sink.name k))) c.in-Some.is)
    c.write_traced.ensures.writes
