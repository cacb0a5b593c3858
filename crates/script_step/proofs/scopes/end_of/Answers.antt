use Rattle.std.proofs.Common.{◌≡◌, ◌∙◌, ◌+◌, ap, arith, take, suc}
use Rattle.script_step.specs.Cuts.{total}
use Rattle.script_step.proofs.CutLemmas.{total-next, total-take}
use Rattle.script_step.proofs.scopes.end_of.Goals as goal

pub overflow_add-end : goal.overflow_add-end
overflow_add-end c =
    omega (arith, total-next c.args.sizes.now c.loop-i.i (omega (arith, c.loop-i-test.true, c.requires.within)), total-take (c.loop-i.i + 1) c.args.sizes.now, c.requires.total, c.ranges.pairs.fits, c.loop-i.invariant)

pub loop-i-preserved : goal.loop-i-preserved
loop-i-preserved c = omega (arith, c.loop-i.invariant, total-next c.args.sizes.now c.loop-i.i (omega (arith, c.loop-i-test.true, c.requires.within)))

pub returns : goal.returns
returns c = (let e : c.loop-i.i ≡ suc c.args.k = omega (arith, c.loop-i-test.false) in c.loop-i.invariant ∙ ap (λ n. total (take n c.args.sizes.now)) e)
