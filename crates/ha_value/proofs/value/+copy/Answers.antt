use Rattle.std.proofs.Common.{◌∙◌, ap}
use Rattle.ha_value.proofs.PlaceLemmas.{next_written}
use Rattle.ha_value.proofs.value.+copy.Goals as goal

pub copy_pairs-loop-i-preserved : goal.copy_pairs-loop-i-preserved
copy_pairs-loop-i-preserved t c =
    let x = c.index-pairs-i.result in
    next_written c.args.pairs.now c.loop-i.all.items c.push_empty_pair.new.pairs.items c.loop-i.i _ _ x c.loop-i.invariant c.loop-i-test.true c.in_ok-push_empty_pair.ensures.ok
    (ap (λ w. (w, c.copy_to-in-loop-i.new.to)) c.in_ok-copy_to.ensures.ok ∙ (ap (λ w. (x.0, w)) c.in_ok-copy_to-2.ensures.ok ∙ c.index-pairs-i.is))

pub copy_values-loop-i-preserved : goal.copy_values-loop-i-preserved
copy_values-loop-i-preserved t c =
    next_written c.args.items.now c.loop-i.all.items c.push_empty.new.items.items c.loop-i.i _ _ c.index-items-i.result c.loop-i.invariant c.loop-i-test.true c.in_ok-push_empty.ensures.ok
    (c.in_ok-copy_to.ensures.ok ∙ c.index-items-i.is)
