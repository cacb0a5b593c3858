use Rattle.std.proofs.Common.{◌∙◌, arith}
use Rattle.trig_set.proofs.ReadLemmas.{are-read, read-all, read-more}
use Rattle.trig_set.proofs.reads.read_each.Goals as goal

pub loop-place-preserved : goal.loop-place-preserved
loop-place-preserved c =
    c.in_ok-push.ensures.ok
    ∙ read-more c.args.triggers.now c.loop-place.place c.index-triggers-place.result c.loop-place.reads _ c.loop-place-test.true c.loop-place.invariant c.in_ok-read.ensures

pub returns : goal.returns
returns c = are-read c.args.triggers.now c.loop-place.reads (c.loop-place.invariant ∙ read-all c.args.triggers.now c.loop-place.place (omega (arith, c.loop-place-test.false)))
