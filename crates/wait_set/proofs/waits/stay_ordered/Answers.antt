use Rattle.std.proofs.Common.{ltb-true, sym}
use Rattle.wait_set.proofs.KeptLemmas.{last-above, none-above}
use Rattle.wait_set.proofs.waits.stay_ordered.Goals as goal

pub returns-in-Some : goal.returns-in-Some
returns-in-Some c less =
    (c.if-not-ordered.false, last-above c.args.asks.now c.args.owner c.in-Some.last.now (sym c.in-Some.ensures.value) (ltb-true c.in-Some.last.now.owner c.args.owner less))

pub returns-in-None : goal.returns-in-None
returns-in-None c up = (c.if-not-ordered.false, λ asc. none-above c.args.asks.now c.args.owner (sym c.in-None.ensures.value))
