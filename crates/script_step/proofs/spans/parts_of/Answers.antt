use Rattle.std.proofs.Common.{◌+◌, sym, ap, arith}
use Rattle.ha_sight.specs.Calls.{part_lengths}
use Rattle.script_step.proofs.EachLemmas.{drop-at, some-left}
use Rattle.script_step.proofs.SpanLemmas.{totals-more, totals-fault, totals-over}
use Rattle.script_step.proofs.spans.parts_of.Goals as goal

pub returns-in-None : goal.returns-in-None
returns-in-None g c =
    let sight = g.A.Answers.sight c.args.answers.now in
    let t = some-left c.args.parts.now c.loop-i.i c.loop-i-test.true in
    totals-over sight c.args.env.now part_lengths c.args.parts.now c.loop-i.i c.loop-i.total c.loop-i.invariant.so_far t.0 t.1 (sym c.in-None.ensures.value)

pub returns-in-Err : goal.returns-in-Err
returns-in-Err g c =
    let sight = g.A.Answers.sight c.args.answers.now in
    let t = c.index-parts-i.result in
    totals-fault sight c.args.env.now part_lengths c.args.parts.now c.loop-i.i c.loop-i.total c.loop-i.invariant.so_far t (drop-at c.args.parts.now c.loop-i.i t c.loop-i-test.true c.index-parts-i.is)
    c.in-Some.length c.in-Err.fault (sym c.in-Some.ensures.value) c.in-Err.ensures.value

pub loop-i-preserved : goal.loop-i-preserved
loop-i-preserved g c =
    let sight = g.A.Answers.sight c.args.answers.now in
    let t = c.index-parts-i.result in
    record {
      so_far =
          totals-more sight c.args.env.now part_lengths c.args.parts.now c.loop-i.i c.loop-i.total c.loop-i.invariant.so_far t (drop-at c.args.parts.now c.loop-i.i t c.loop-i-test.true c.index-parts-i.is)
          c.in-Some.length c.in-Ok.count _ (sym c.in-Some.ensures.value) c.in-Ok.ensures.value (ap (λ n. c.loop-i.total + n) c.milliseconds-total.ensures.value);
      bound = omega (arith, c.loop-i.invariant.bound, c.milliseconds-total.ensures.bound);
    }
