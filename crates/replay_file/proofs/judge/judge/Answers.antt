use Rattle.std.proofs.Common.{[], ◌≤◌, arith, false, length, refl, rules, sym}
use Rattle.ha_config.proofs.ListLemmas.{true-false}
use Rattle.ha_replay.specs.Traces.{reached}
use Rattle.trace_laws.proofs.RunLemmas.{none_full}
use Rattle.replay_file.specs.Fronts.{most_bytes}
use Rattle.replay_file.specs.Steps.{IsReady}
use Rattle.replay_file.proofs.StopLemmas.{nothing_at, read_failed, refused_at_end, too_long}
use Rattle.replay_file.proofs.TakeLemmas.{booted_at, booted_ready, line_within, no_longer, unbooted_judged}
use Rattle.replay_file.proofs.judge.judge.Goals as goal

pub returns-in-Failed-clause-judged : goal.returns-in-Failed-clause-judged
returns-in-Failed-clause-judged g c =
    let o = g.K.Sink.written c.args.out.now in
    let e = g.K.Sink.written c.args.err.now in
    read_failed c.args.text.now c.args.end [] [] false c.args.text.now o o e e (nothing_at c.args.text.now o e) c.in-Failed.is (c.cut_line.ensures.none c.in_default.is)

pub returns-in-TooLong-clause-judged : goal.returns-in-TooLong-clause-judged
returns-in-TooLong-clause-judged g c =
    let o = g.K.Sink.written c.args.out.now in
    let e = g.K.Sink.written c.args.err.now in
    too_long c.args.text.now c.args.end [] [] false c.args.text.now o o e e (nothing_at c.args.text.now o e) c.in-TooLong.is (c.cut_line.ensures.none c.in_default.is)

pub returns-in-Whole-clause-judged : goal.returns-in-Whole-clause-judged
returns-in-Whole-clause-judged g c =
    let o = g.K.Sink.written c.args.out.now in
    let e = g.K.Sink.written c.args.err.now in
    refused_at_end c.args.text.now c.args.end [] [] false c.args.text.now o o e e (nothing_at c.args.text.now o e) 0 c.in-Whole.is (λ bad. absurd (true-false (sym bad))) (λ _ full. none_full full)
    (c.cut_line.ensures.none c.in_default.is) refl c.status_of.result (c.status_of.ensures.refused refl)

pub returns-in-Err-clause-judged : goal.returns-in-Err-clause-judged
returns-in-Err-clause-judged g c =
    unbooted_judged c.args.text.now c.in-Some.first.line.now c.in-Some.first.behind.now c.args.end (g.K.Sink.written c.args.out.now) (g.K.Sink.written c.args.err.now) c.in-Some.ensures.found c.in-Err.fault c.in-Err.ensures.refused
    c.status_of-in-Err.result c.status_of-in-Err.ensures.refused c.status_of-in-Err.ensures.memory

pub returns-clause-judged : goal.returns-clause-judged
returns-clause-judged g c =
    let o = g.K.Sink.written c.args.out.now in
    let e = g.K.Sink.written c.args.err.now in
    let j = g.E.Core.entries c.in-Ok.core in
    let rs = g.E.Core.runs c.in-Ok.core in
    c.judge_lines.ensures.judged c.args.text.now o e (booted_at c.args.text.now c.in-Some.first.line.now c.in-Some.first.behind.now j rs o e c.in-Ok.ensures.booted c.in-Some.ensures.found)

pub judge_lines-requires-clause-ready : goal.judge_lines-requires-clause-ready
judge_lines-requires-clause-ready g c =
    let j = g.E.Core.entries c.in-Ok.core in
    let rs = g.E.Core.runs c.in-Ok.core in
    let ready : IsReady (reached j rs false false) (g.E.Core.is_spent c.in-Ok.core) false 1 = booted_ready c.in-Some.first.line.now j rs (g.E.Core.is_spent c.in-Ok.core) c.in-Ok.ensures.booted c.in-Ok.ensures.usable in
    search (rules, ready)

pub judge_lines-requires-clause-short : goal.judge_lines-requires-clause-short
judge_lines-requires-clause-short g c = (let less = no_longer c.args.text.now c.in-Some.first.line.now c.in-Some.first.behind.now c.in-Some.ensures.found in omega (arith, less, c.requires.short))

pub boot-requires-clause-short : goal.boot-requires-clause-short
boot-requires-clause-short g c =
    (let low : length c.in-Some.first.line.now ≤ most_bytes = line_within c.args.text.now c.in-Some.first.line.now c.in-Some.first.behind.now most_bytes c.in-Some.ensures.found c.requires.short in omega (arith, low))
