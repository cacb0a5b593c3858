use Rattle.std.proofs.Common.{subst}
use Rattle.tpl_fns.specs.Outcome.{Gives}
use Rattle.tpl_fns.proofs.ListLemmas.{best-more, best-none, best-all}
use Rattle.tpl_fns.proofs.lists.best.Goals as goal

pub loop-value-preserved : goal.loop-value-preserved
loop-value-preserved c =
    best-more c.args.side c.args.values.now c.loop-value.so_far c.loop-value.value-index c.loop-value.invariant c.value-item.result _ _ c.loop-value-test.true c.value-item.is
    c.in-Some.ensures c.better.ensures

pub returns-in-None : goal.returns-in-None
returns-in-None c =
    best-none c.args.side c.args.values.now c.loop-value.so_far c.loop-value.value-index c.loop-value.invariant c.value-item.result c.loop-value-test.true c.value-item.is
    c.in-None.ensures

pub returns : goal.returns
returns c =
    subst (λ o. Gives c.given.result o)
    (best-all c.args.side c.args.values.now c.loop-value.so_far c.loop-value.value-index c.loop-value.invariant c.loop-value-test.false) c.given.ensures
