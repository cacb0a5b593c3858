use Rattle.std.proofs.Common.{get_or, arith, refl}
use Rattle.wait_set.proofs.RunLemmas.{before, behind, least-from, passed}
use Rattle.wait_set.proofs.runs.seek.Goals as goal

pub pairs-init : goal.pairs-init
pairs-init c n d le lt is = (let least = least-from c.args.asks.now c.args.from n d c.requires.order le lt in let own = c.owner_in-low.ensures d in omega (arith, least, own))

pub returns-in_default-clause-skipped : goal.returns-in_default-clause-skipped
returns-in_default-clause-skipped c n d le lt within =
    passed c.args.runs.now c.args.serial c.args.asks.now c.requires.paired c.pairs.low n d lt (c.pairs.invariant n d le lt) (λ low. c.in_default.ensures (get_or c.args.asks.now n d).owner low tt)

pub returns-in-Some-place_in-clause-skipped : goal.returns-in-Some-place_in-clause-skipped
returns-in-Some-place_in-clause-skipped c n d le lt within =
    before c.args.runs.now c.args.serial c.args.asks.now c.requires.paired c.requires.order c.pairs.low c.in-Some.owner c.in-Some.ensures c.in-Some-place_in.place n d lt c.in-Some-place_in.ensures.there.1
    (c.in-Some-place_in.ensures.owned d) (c.pairs.invariant n d le within)

pub pairs-preserved : goal.pairs-preserved
pairs-preserved c n d le lt is =
    (let over = behind c.args.runs.now c.args.serial c.args.asks.now c.requires.paired c.requires.order c.pairs.low c.in-Some.owner c.in-Some.ensures n d lt (c.in_default-place_in.ensures.none refl n d le lt) (c.pairs.invariant n d le lt is) is in
    let up = c.saturating_add-low.ensures in omega (arith, over, up))
