use Rattle.std.proofs.Common.{ap, map, refl}
use Rattle.std.specs.Option.{option_map}
use Rattle.bus_turn.specs.States.{keeper_of, sink_of}
use Rattle.ha_worker.specs.Courses.{source_of}
use Rattle.ha_top.proofs.EndedLemmas.{unanswered}
use Rattle.ha_top.proofs.program.hearth.Goals as goal

pub returns-in-Err-Memory-clause-answers : goal.returns-in-Err-Memory-clause-answers
returns-in-Err-Memory-clause-answers g c =
    let e = c.ended-in-Err-Memory.ensures in
    let sink = sink_of g.P.Sink.Sink.written g.P.Sink.Sink.faults g.P.Sink.Sink.zeros g.P.Sink.Sink.name in
    unanswered _ _ (record {
      status_is = e.status;
      no_entry = e.journal;
      no_record = e.records;
      no_source = ap (map (source_of g.P.Source.Source.faults g.P.Source.Source.left g.P.Source.Source.name)) e.sources;
      no_trace = ap (option_map sink) e.trace;
      same_out = ap sink e.out;
      same_keep = ap (keeper_of g.Q.Keeper.kept g.Q.Keeper.faults) e.keep;
      same_place = refl;
      line = e.line;
      counts = e.counts;
      same_name = e.same_name;
    }) _
