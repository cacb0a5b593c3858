use Rattle.std.proofs.Common.{◌∙◌, ap, sym}
use Rattle.std.specs.Option.{option_copied}
use Rattle.bus_turn.specs.States.{sink_of}
use Rattle.replay_file.proofs.WriteLemmas.{call_unwritten, call_written, has_last}
use Rattle.replay_file.proofs.judge.write_last.Goals as goal

pub returns-in-Err : goal.returns-in-Err
returns-in-Err g c = λ before x is.
    let s = sink_of g.K.Sink.written g.K.Sink.faults g.K.Sink.zeros g.K.Sink.name in
    call_unwritten (g.C.Core.entries c.args.core.now) c.journal.result.now before x c.in-Some.entry.now (g.C.Core.runs c.args.core.now) is c.journal.ensures.value
    (sym (ap option_copied c.in-Some.is) ∙ c.last.ensures.value) (s c.args.out.now) (s c.write_call.new.sink) (s c.args.err.now) c.in-Err.fault (rw c.in-Err.is at c.write_call.ensures)

pub returns : goal.returns
returns g c = λ before x is.
    let s = sink_of g.K.Sink.written g.K.Sink.faults g.K.Sink.zeros g.K.Sink.name in
    call_written (g.C.Core.entries c.args.core.now) c.journal.result.now before x c.in-Some.entry.now (g.C.Core.runs c.args.core.now) is c.journal.ensures.value
    (sym (ap option_copied c.in-Some.is) ∙ c.last.ensures.value) (s c.args.out.now) (s c.write_call.new.sink) (s c.args.err.now) (s c.write_error.new.sink) _ (rw c.in-Ok.is at c.write_call.ensures) c.write_error.ensures

pub returns-in_default : goal.returns-in_default
returns-in_default g c = λ before x is. absurd (has_last (g.C.Core.entries c.args.core.now) c.journal.result.now before x is c.journal.ensures.value (sym (ap option_copied c.in_default.is) ∙ c.last.ensures.value))
