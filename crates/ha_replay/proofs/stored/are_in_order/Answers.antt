use Rattle.std.proofs.Common.{◌∙◌, ◌-◌, sym, arith}
use Rattle.ha_replay.proofs.OrderLemmas.{in-order-short}
use Rattle.ha_replay.proofs.stored.are_in_order.Goals as goal

pub returns : goal.returns
returns g c = sym (c.loop-i.invariant ∙ in-order-short c.args.pairs.now (c.loop-i.i - 1) (omega (arith, c.loop-i-test.false)))
