use Rattle.std.proofs.Common.{◌∙◌, map, arith, subst}
use Rattle.std.proofs.lemmas.List.{length-map}
use Rattle.bus_turn.specs.States.{keeper_of, outside_of, sink_of}
use Rattle.ha_run.specs.Finish.{Finishes}
use Rattle.ha_run.specs.Opened.{source_of}
use Rattle.ha_run.proofs.FinishLemmas.{core_ran}
use Rattle.ha_run.proofs.RoundLemmas.{shown_by}
use Rattle.ha_run.proofs.core_run.run_core.Goals as goal

pub returns-clause-ran : goal.returns-clause-ran
returns-clause-ran g c = λ boot is.
    let src = source_of g.S.Source.faults g.S.Source.left g.S.Source.name in
    let s = sink_of g.K.Sink.written g.K.Sink.faults g.K.Sink.zeros g.K.Sink.name in
    let q = keeper_of g.Q.Keeper.kept g.Q.Keeper.faults in
    let out = outside_of s q c.finish-status.result.calls c.finish-status.result.errors c.finish-status.result.trace c.finish-status.result.keep in
    let told = c.go_round-bus.ensures.2 in
    core_ran g.C.Prepare.Prepare.reads boot (outside_of s q c.args.out c.args.err c.args.trace c.args.keep) c.start-bus.result (c.start-bus.ensures.journal ∙ is)
    (shown_by boot (outside_of s q c.args.out c.args.err c.args.trace c.args.keep) c.start-bus.result (g.C.Core.runs c.args.core) c.start-bus.ensures.records (c.start-bus.ensures.shows boot is)) c.first.ensures.stands
    (map src c.args.sources) c.go_round-bus.result.bus (map src c.go_round-bus.result.sources) c.go_round-bus.ensures.0 c.finish-status.result.status c.finish-status.result.journal c.finish-status.result.records out
    (omega (arith, c.requires.some, length-map c.args.sources src)) c.go_round-bus.ensures.1
    (subst (λ z. Finishes z c.finish-status.result.status c.finish-status.result.journal c.finish-status.result.records out c.go_round-bus.result.bus) told c.finish-status.ensures.finishes) c.finish-status.ensures.read
