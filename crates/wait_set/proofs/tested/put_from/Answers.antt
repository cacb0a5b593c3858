use Rattle.std.proofs.Common.{arith, get_or}
use Rattle.wait_set.proofs.TestedLemmas.{before-put}
use Rattle.wait_set.proofs.tested.put_from.Goals as goal

pub loop-at-preserved : goal.loop-at-preserved
loop-at-preserved c n d under none =
    let owner = (get_or c.args.asks.now n d).owner in
    before-put c.args.asks.now c.loop-at.at c.owner_in.result n c.args.place d (c.owner_in.ensures d) under
    (λ before. c.loop-at.invariant n d before (c.in_ok-put.ensures.kept owner none)) (c.in_ok-put.ensures.apart owner none)

pub returns : goal.returns
returns c n d lt none = c.loop-at.invariant n d (omega (arith, lt, c.loop-at-test.false)) none
