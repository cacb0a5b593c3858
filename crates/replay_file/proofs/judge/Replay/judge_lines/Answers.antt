use Rattle.std.proofs.Common.{◌≤◌, ◌∙◌, arith, length, refl}
use Rattle.ha_status.proofs.CauseLemmas.{falls_never}
use Rattle.replay_file.specs.Fronts.{most_bytes}
use Rattle.replay_file.proofs.TakeLemmas.{left_as, line_within, no_longer}
use Rattle.replay_file.proofs.WriteLemmas.{cause_later, cause_none}
use Rattle.replay_file.proofs.judge.Replay.judge_lines.Goals as goal

pub lines-init : goal.lines-init
lines-init g c = record {
  ready = c.requires.ready;
  short = c.requires.short;
  at = λ text o e at. at;
  out_counts = record { faults_stay = omega arith; zeros_stay = omega arith };
  err_counts = record { faults_stay = omega arith; zeros_stay = omega arith };
  out_name = refl;
  err_name = refl;
}

pub take-requires-clause-short : goal.take-requires-clause-short
take-requires-clause-short g c =
    let low : length c.in-Some.cut.line.now ≤ most_bytes = line_within c.lines.left.now c.in-Some.cut.line.now c.in-Some.cut.behind.now most_bytes c.in-Some.ensures.found c.lines.invariant.short in
    omega (arith, low)

pub lines-preserved : goal.lines-preserved
lines-preserved g c =
    let cuts = c.in-Some.ensures.found in
    record {
      ready = c.in-Ok.ensures.ready;
      short = (let less = no_longer c.lines.left.now c.in-Some.cut.line.now c.in-Some.cut.behind.now cuts in omega (arith, less, c.lines.invariant.short));
      at = λ text o e at. c.in-Ok.ensures.goes_on text c.in-Some.cut.behind.now o e (left_as text _ _ _ _ _ o _ e _ cuts.text_is (c.lines.invariant.at text o e at));
      out_counts = falls_never _ _ _ _ _ _ c.lines.invariant.out_counts c.in-Ok.ensures.out_counts;
      err_counts = falls_never _ _ _ _ _ _ c.lines.invariant.err_counts c.in-Ok.ensures.err_counts;
      out_name = c.in-Ok.ensures.out_name ∙ c.lines.invariant.out_name;
      err_name = c.in-Ok.ensures.err_name ∙ c.lines.invariant.err_name;
    }

pub lines-smaller : goal.lines-smaller
lines-smaller g c = no_longer c.lines.left.now c.in-Some.cut.line.now c.in-Some.cut.behind.now c.in-Some.ensures.found

pub returns-in-Err-clause-judged : goal.returns-in-Err-clause-judged
returns-in-Err-clause-judged g c = λ text o e at.
    let cuts = c.in-Some.ensures.found in
    c.in-Err.ensures.stops text c.in-Some.cut.behind.now c.args.end o e cuts.one_line (left_as text _ _ _ _ _ o _ e _ cuts.text_is (c.lines.invariant.at text o e at))

pub returns-in-Err-clause-cause : goal.returns-in-Err-clause-cause
returns-in-Err-clause-cause g c = cause_later _ _ _ _ _ _ _ _ _ _ _ _ _ c.lines.invariant.out_counts c.lines.invariant.err_counts c.in-Err.ensures.cause

pub returns-in-Err-clause-out_counts : goal.returns-in-Err-clause-out_counts
returns-in-Err-clause-out_counts g c = falls_never _ _ _ _ _ _ c.lines.invariant.out_counts c.in-Err.ensures.out_counts

pub returns-in-Err-clause-err_counts : goal.returns-in-Err-clause-err_counts
returns-in-Err-clause-err_counts g c = falls_never _ _ _ _ _ _ c.lines.invariant.err_counts c.in-Err.ensures.err_counts

pub returns-clause-judged : goal.returns-clause-judged
returns-clause-judged g c = λ text o e at. c.end.ensures.judged text o _ e _ (c.lines.invariant.at text o e at)

pub returns-clause-cause : goal.returns-clause-cause
returns-clause-cause g c = cause_none _ _ _ c.end.ensures.cause
