use Rattle.std.proofs.Common.{◌∙◌, sym, arith}
use Rattle.ha_engine.proofs.NameLoops.{known-done, known-none, known-step}
use Rattle.ha_engine.proofs.lasts.lasts_by_name.Goals as goal

pub names-init : goal.names-init
names-init c = c.in_ok-lasts.ensures.items ∙ sym (known-none c.args.known.now c.args.carried.now)

pub names-preserved : goal.names-preserved
names-preserved c =
    known-step c.args.known.now c.args.names.now c.args.carried.now c.names.at c.index-names-at.result _ _ c.known_last-last.result c.names-test.true c.names.invariant c.index-names-at.is c.known_last-last.ensures c.in_ok-push.ensures.items

pub returns : goal.returns
returns c = known-done c.args.known.now c.args.names.now c.args.carried.now c.names.at _ (omega (arith, c.names-test.false)) c.names.invariant
