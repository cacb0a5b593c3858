use Rattle.std.proofs.Common.{◌∙◌, ap, map, refl, rules}
use Rattle.std.specs.Option.{option_map}
use Rattle.bus_turn.specs.States.{keeper_of, sink_of}
use Rattle.ha_worker.specs.Courses.{source_of}
use Rattle.ha_top.proofs.EarlyLemmas.{sink_same}
use Rattle.ha_top.proofs.EndedLemmas.{unreplayed}
use Rattle.ha_top.proofs.SameLemmas.{calls_told, replay_errors_told}
use Rattle.ha_top.proofs.SourceLemmas.{faults_are, handed_back_as, lefts_are, names_are, replay_as, unread_as}
use Rattle.ha_top.proofs.program.replay.Goals as goal

pub returns-in_default-clause-answers : goal.returns-in_default-clause-answers
returns-in_default-clause-answers g c =
    let e = c.ended.ensures in
    let sink = sink_of g.P.Sink.Sink.written g.P.Sink.Sink.faults g.P.Sink.Sink.zeros g.P.Sink.Sink.name in
    unreplayed _ _ (record {
      status_is = e.status;
      no_entry = e.journal;
      no_record = e.records;
      no_source = ap (map (source_of g.P.Source.Source.faults g.P.Source.Source.left g.P.Source.Source.name)) e.sources;
      no_trace = ap (option_map sink) e.trace;
      same_out = ap sink e.out;
      same_keep = ap (keeper_of g.Q.Keeper.kept g.Q.Keeper.faults) e.keep;
      same_place = refl;
      line = e.line;
      counts = e.counts;
      same_name = e.same_name;
    }) c.args.name.now

pub returns-clause-answers : goal.returns-clause-answers
returns-clause-answers g c =
    let e = c.replay_call-status.ensures in
    let same = c.as_str.ensures.value in
    let source = g.P.Source.Source in
    let handed = c.replay_call-status.result.1 in
    record {
      replay = replay_as _ _ _ _ _ _ _ _ same (lefts_are source.faults source.left source.name handed c.listed.result c.listed.ensures) e.replay;
      asked = search rules;
      nothing = search rules;
      handed_back = handed_back_as _ _ _ _ _ same (names_are source.faults source.left source.name handed c.listed.result c.listed.ensures) e.handed_back;
      at_end = λ told ok. lefts_are source.faults source.left source.name handed c.listed.result c.listed.ensures ∙ e.at_end told ok;
      unopened = rw (← c.as_str.ensures.value) c.replay_call-status.ensures.unopened;
      unread = unread_as _ _ _ _ _ _ _ same (faults_are source.faults source.left source.name handed c.listed.result c.listed.ensures)
          (names_are source.faults source.left source.name handed c.listed.result c.listed.ensures) e.unread;
      unwritten = e.unwritten;
    }

pub returns-in_default-clause-same_out : goal.returns-in_default-clause-same_out
returns-in_default-clause-same_out g c =
    let sink = sink_of g.P.Sink.Sink.written g.P.Sink.Sink.faults g.P.Sink.Sink.zeros g.P.Sink.Sink.name in sink_same _ _ (ap sink c.ended.ensures.out)

pub returns-clause-same_out : goal.returns-clause-same_out
returns-clause-same_out g c =
    let e = c.replay_call-status.ensures in
    record { told = calls_told _ _ _ _ _ _ _ e.replay; faults = e.out_counts.faults_stay; zeros = e.out_counts.zeros_stay; same_name = e.out_name }

pub returns-clause-same_err : goal.returns-clause-same_err
returns-clause-same_err g c =
    let e = c.replay_call-status.ensures in
    record { told = replay_errors_told _ _ _ _ _ _ _ _ e.replay; faults = e.err_counts.faults_stay; zeros = e.err_counts.zeros_stay; same_name = e.err_name }
