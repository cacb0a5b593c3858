use Rattle.std.proofs.Common.{refl, rules, true}
use Rattle.std.specs.Prelude.{None, Some}
use Rattle.bus_turn.specs.States.{sink_of}
use Rattle.ha_replay.specs.Traces.{reached, told}
use Rattle.replay_file.proofs.TakeLemmas.{at_same, end_of, end_taken, entry_cut, entry_of, entry_taken, not_taken, ready_ended, ready_taken}
use Rattle.replay_file.proofs.ToldLemmas.{told_has}
use Rattle.replay_file.proofs.WriteLemmas.{cause_of, stay, written}
use Rattle.replay_file.proofs.judge.take_line.Goals as goal

pub returns-in-Ok-true-clause-goes_on : goal.returns-in-Ok-true-clause-goes_on
returns-in-Ok-true-clause-goes_on g c = λ text behind o e at.
    let a = c.args in
    let r = reached (g.C.Core.entries a.core.now) (g.C.Core.runs a.core.now) a.closing.now a.again.now in
    let r' = reached (g.C.Core.entries c.replay_line.new.core) (g.C.Core.runs c.replay_line.new.core) c.replay_line.new.closing c.replay_line.new.again in
    let found = end_of a.line.now r r' c.in-Ok-true.field-0 (search (rules, c.in-Ok-true.field-0-test)) c.in-Ok-true.ensures.answer in
    at_same text r r' true true behind o _ e _ found.1 refl (end_taken text a.line.now behind (told r) r.records o _ e _ (told_has r c.requires.ready.stands) found.0 at)

pub returns-in-Ok-true-clause-ready : goal.returns-in-Ok-true-clause-ready
returns-in-Ok-true-clause-ready g c =
    let a = c.args in
    let r = reached (g.C.Core.entries a.core.now) (g.C.Core.runs a.core.now) a.closing.now a.again.now in
    let r' = reached (g.C.Core.entries c.replay_line.new.core) (g.C.Core.runs c.replay_line.new.core) c.replay_line.new.closing c.replay_line.new.again in
    let found = end_of a.line.now r r' c.in-Ok-true.field-0 (search (rules, c.in-Ok-true.field-0-test)) c.in-Ok-true.ensures.answer in
    ready_ended r r' _ _ a.lines found.1 c.in-Ok-true.ensures.usable c.requires.ready

pub returns-in-Ok-clause-goes_on : goal.returns-in-Ok-clause-goes_on
returns-in-Ok-clause-goes_on g c = λ text behind o e at.
    let a = c.args in
    let s = sink_of g.K.Sink.written g.K.Sink.faults g.K.Sink.zeros g.K.Sink.name in
    let r = reached (g.C.Core.entries a.core.now) (g.C.Core.runs a.core.now) a.closing.now a.again.now in
    let r' = reached (g.C.Core.entries c.replay_line.new.core) (g.C.Core.runs c.replay_line.new.core) c.replay_line.new.closing c.replay_line.new.again in
    let t = entry_of a.line.now r r' c.in-Ok-false.field-0 (search (rules, c.in-Ok-false.field-0-test)) c.in-Ok-false.ensures.answer in
    let w = written a.line.now r r' t (s a.out.now) (s a.err.now) (s c.write_last.new.out) (s c.write_last.new.err) None c.in-Ok.ensures in
    entry_taken text a.line.now behind r r' t c.requires.ready.stands o (g.K.Sink.written a.out.now) (g.K.Sink.written c.write_last.new.out) e (g.K.Sink.written a.err.now) (g.K.Sink.written c.write_last.new.err) at c.journal.ensures.read w.0.took w.1.took

pub returns-in-Ok-clause-out_counts : goal.returns-in-Ok-clause-out_counts
returns-in-Ok-clause-out_counts g c =
    let a = c.args in
    let s = sink_of g.K.Sink.written g.K.Sink.faults g.K.Sink.zeros g.K.Sink.name in
    let r = reached (g.C.Core.entries a.core.now) (g.C.Core.runs a.core.now) a.closing.now a.again.now in
    let r' = reached (g.C.Core.entries c.replay_line.new.core) (g.C.Core.runs c.replay_line.new.core) c.replay_line.new.closing c.replay_line.new.again in
    let t = entry_of a.line.now r r' c.in-Ok-false.field-0 (search (rules, c.in-Ok-false.field-0-test)) c.in-Ok-false.ensures.answer in
    (stay a.line.now r r' t (s a.out.now) (s a.err.now) (s c.write_last.new.out) (s c.write_last.new.err) None c.in-Ok.ensures).out_counts

pub returns-in-Ok-clause-err_counts : goal.returns-in-Ok-clause-err_counts
returns-in-Ok-clause-err_counts g c =
    let a = c.args in
    let s = sink_of g.K.Sink.written g.K.Sink.faults g.K.Sink.zeros g.K.Sink.name in
    let r = reached (g.C.Core.entries a.core.now) (g.C.Core.runs a.core.now) a.closing.now a.again.now in
    let r' = reached (g.C.Core.entries c.replay_line.new.core) (g.C.Core.runs c.replay_line.new.core) c.replay_line.new.closing c.replay_line.new.again in
    let t = entry_of a.line.now r r' c.in-Ok-false.field-0 (search (rules, c.in-Ok-false.field-0-test)) c.in-Ok-false.ensures.answer in
    (stay a.line.now r r' t (s a.out.now) (s a.err.now) (s c.write_last.new.out) (s c.write_last.new.err) None c.in-Ok.ensures).err_counts

pub returns-in-Ok-clause-out_name : goal.returns-in-Ok-clause-out_name
returns-in-Ok-clause-out_name g c =
    let a = c.args in
    let s = sink_of g.K.Sink.written g.K.Sink.faults g.K.Sink.zeros g.K.Sink.name in
    let r = reached (g.C.Core.entries a.core.now) (g.C.Core.runs a.core.now) a.closing.now a.again.now in
    let r' = reached (g.C.Core.entries c.replay_line.new.core) (g.C.Core.runs c.replay_line.new.core) c.replay_line.new.closing c.replay_line.new.again in
    let t = entry_of a.line.now r r' c.in-Ok-false.field-0 (search (rules, c.in-Ok-false.field-0-test)) c.in-Ok-false.ensures.answer in
    (stay a.line.now r r' t (s a.out.now) (s a.err.now) (s c.write_last.new.out) (s c.write_last.new.err) None c.in-Ok.ensures).out_name

pub returns-in-Ok-clause-err_name : goal.returns-in-Ok-clause-err_name
returns-in-Ok-clause-err_name g c =
    let a = c.args in
    let s = sink_of g.K.Sink.written g.K.Sink.faults g.K.Sink.zeros g.K.Sink.name in
    let r = reached (g.C.Core.entries a.core.now) (g.C.Core.runs a.core.now) a.closing.now a.again.now in
    let r' = reached (g.C.Core.entries c.replay_line.new.core) (g.C.Core.runs c.replay_line.new.core) c.replay_line.new.closing c.replay_line.new.again in
    let t = entry_of a.line.now r r' c.in-Ok-false.field-0 (search (rules, c.in-Ok-false.field-0-test)) c.in-Ok-false.ensures.answer in
    (stay a.line.now r r' t (s a.out.now) (s a.err.now) (s c.write_last.new.out) (s c.write_last.new.err) None c.in-Ok.ensures).err_name

pub returns-in-Ok-clause-ready : goal.returns-in-Ok-clause-ready
returns-in-Ok-clause-ready g c =
    let a = c.args in
    let r = reached (g.C.Core.entries a.core.now) (g.C.Core.runs a.core.now) a.closing.now a.again.now in
    let r' = reached (g.C.Core.entries c.replay_line.new.core) (g.C.Core.runs c.replay_line.new.core) c.replay_line.new.closing c.replay_line.new.again in
    let t = entry_of a.line.now r r' c.in-Ok-false.field-0 (search (rules, c.in-Ok-false.field-0-test)) c.in-Ok-false.ensures.answer in
    ready_taken a.line.now r r' _ _ a.lines t c.in-Ok-false.ensures.usable c.requires.ready

pub returns-in-Err-write_last-clause-stops : goal.returns-in-Err-write_last-clause-stops
returns-in-Err-write_last-clause-stops g c = λ text behind end o e one at.
    let a = c.args in
    let s = sink_of g.K.Sink.written g.K.Sink.faults g.K.Sink.zeros g.K.Sink.name in
    let r = reached (g.C.Core.entries a.core.now) (g.C.Core.runs a.core.now) a.closing.now a.again.now in
    let r' = reached (g.C.Core.entries c.replay_line.new.core) (g.C.Core.runs c.replay_line.new.core) c.replay_line.new.closing c.replay_line.new.again in
    let t = entry_of a.line.now r r' c.in-Ok-false.field-0 (search (rules, c.in-Ok-false.field-0-test)) c.in-Ok-false.ensures.answer in
    let w = written a.line.now r r' t (s a.out.now) (s a.err.now) (s c.write_last.new.out) (s c.write_last.new.err) (Some c.in-Err-write_last.fault) c.in-Err-write_last.ensures in
    entry_cut text a.line.now behind r r' t c.requires.ready.stands o (g.K.Sink.written a.out.now) (g.K.Sink.written c.write_last.new.out) e (g.K.Sink.written a.err.now) (g.K.Sink.written c.write_last.new.err) at c.journal.ensures.read
    end c.unwritten.result c.unwritten.ensures.cut w.0.front w.1.front

pub returns-in-Err-write_last-clause-cause : goal.returns-in-Err-write_last-clause-cause
returns-in-Err-write_last-clause-cause g c =
    let a = c.args in
    let s = sink_of g.K.Sink.written g.K.Sink.faults g.K.Sink.zeros g.K.Sink.name in
    let r = reached (g.C.Core.entries a.core.now) (g.C.Core.runs a.core.now) a.closing.now a.again.now in
    let r' = reached (g.C.Core.entries c.replay_line.new.core) (g.C.Core.runs c.replay_line.new.core) c.replay_line.new.closing c.replay_line.new.again in
    let t = entry_of a.line.now r r' c.in-Ok-false.field-0 (search (rules, c.in-Ok-false.field-0-test)) c.in-Ok-false.ensures.answer in
    let w = written a.line.now r r' t (s a.out.now) (s a.err.now) (s c.write_last.new.out) (s c.write_last.new.err) (Some c.in-Err-write_last.fault) c.in-Err-write_last.ensures in
    cause_of (s a.out.now) (s a.err.now) (s c.write_last.new.out) (s c.write_last.new.err) c.in-Err-write_last.fault c.unwritten.result c.unwritten.ensures.write w.2

pub returns-in-Err-write_last-clause-out_counts : goal.returns-in-Err-write_last-clause-out_counts
returns-in-Err-write_last-clause-out_counts g c =
    let a = c.args in
    let s = sink_of g.K.Sink.written g.K.Sink.faults g.K.Sink.zeros g.K.Sink.name in
    let r = reached (g.C.Core.entries a.core.now) (g.C.Core.runs a.core.now) a.closing.now a.again.now in
    let r' = reached (g.C.Core.entries c.replay_line.new.core) (g.C.Core.runs c.replay_line.new.core) c.replay_line.new.closing c.replay_line.new.again in
    let t = entry_of a.line.now r r' c.in-Ok-false.field-0 (search (rules, c.in-Ok-false.field-0-test)) c.in-Ok-false.ensures.answer in
    (stay a.line.now r r' t (s a.out.now) (s a.err.now) (s c.write_last.new.out) (s c.write_last.new.err) (Some c.in-Err-write_last.fault) c.in-Err-write_last.ensures).out_counts

pub returns-in-Err-write_last-clause-err_counts : goal.returns-in-Err-write_last-clause-err_counts
returns-in-Err-write_last-clause-err_counts g c =
    let a = c.args in
    let s = sink_of g.K.Sink.written g.K.Sink.faults g.K.Sink.zeros g.K.Sink.name in
    let r = reached (g.C.Core.entries a.core.now) (g.C.Core.runs a.core.now) a.closing.now a.again.now in
    let r' = reached (g.C.Core.entries c.replay_line.new.core) (g.C.Core.runs c.replay_line.new.core) c.replay_line.new.closing c.replay_line.new.again in
    let t = entry_of a.line.now r r' c.in-Ok-false.field-0 (search (rules, c.in-Ok-false.field-0-test)) c.in-Ok-false.ensures.answer in
    (stay a.line.now r r' t (s a.out.now) (s a.err.now) (s c.write_last.new.out) (s c.write_last.new.err) (Some c.in-Err-write_last.fault) c.in-Err-write_last.ensures).err_counts

pub returns-in-Err-write_last-clause-out_name : goal.returns-in-Err-write_last-clause-out_name
returns-in-Err-write_last-clause-out_name g c =
    let a = c.args in
    let s = sink_of g.K.Sink.written g.K.Sink.faults g.K.Sink.zeros g.K.Sink.name in
    let r = reached (g.C.Core.entries a.core.now) (g.C.Core.runs a.core.now) a.closing.now a.again.now in
    let r' = reached (g.C.Core.entries c.replay_line.new.core) (g.C.Core.runs c.replay_line.new.core) c.replay_line.new.closing c.replay_line.new.again in
    let t = entry_of a.line.now r r' c.in-Ok-false.field-0 (search (rules, c.in-Ok-false.field-0-test)) c.in-Ok-false.ensures.answer in
    (stay a.line.now r r' t (s a.out.now) (s a.err.now) (s c.write_last.new.out) (s c.write_last.new.err) (Some c.in-Err-write_last.fault) c.in-Err-write_last.ensures).out_name

pub returns-in-Err-write_last-clause-err_name : goal.returns-in-Err-write_last-clause-err_name
returns-in-Err-write_last-clause-err_name g c =
    let a = c.args in
    let s = sink_of g.K.Sink.written g.K.Sink.faults g.K.Sink.zeros g.K.Sink.name in
    let r = reached (g.C.Core.entries a.core.now) (g.C.Core.runs a.core.now) a.closing.now a.again.now in
    let r' = reached (g.C.Core.entries c.replay_line.new.core) (g.C.Core.runs c.replay_line.new.core) c.replay_line.new.closing c.replay_line.new.again in
    let t = entry_of a.line.now r r' c.in-Ok-false.field-0 (search (rules, c.in-Ok-false.field-0-test)) c.in-Ok-false.ensures.answer in
    (stay a.line.now r r' t (s a.out.now) (s a.err.now) (s c.write_last.new.out) (s c.write_last.new.err) (Some c.in-Err-write_last.fault) c.in-Err-write_last.ensures).err_name

pub returns-in-Err-clause-stops : goal.returns-in-Err-clause-stops
returns-in-Err-clause-stops g c = λ text behind end o e one at.
    let a = c.args in
    let r = reached (g.C.Core.entries a.core.now) (g.C.Core.runs a.core.now) a.closing.now a.again.now in
    let r' = reached (g.C.Core.entries c.replay_line.new.core) (g.C.Core.runs c.replay_line.new.core) c.replay_line.new.closing c.replay_line.new.again in
    not_taken text a.line.now behind end r r' a.lines o (g.K.Sink.written a.out.now) e (g.K.Sink.written a.err.now) one at c.requires.ready.stands c.requires.ready.counted c.in-Err.fault c.in-Err.ensures.answer
    c.status_of.result c.status_of.ensures.refused c.status_of.ensures.full c.status_of.ensures.memory
