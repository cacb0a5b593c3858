use Rattle.std.proofs.Common.{ℕ, arith}
use Rattle.std.specs.Prelude.{unwrap_or}
use Rattle.ha_config.specs.Words.{Text}
use Rattle.ha_whole.specs.Named.{named}
use Rattle.ha_engine.proofs.NameLoops.{each-done, each-more}
use Rattle.ha_engine.proofs.carried.numbers_by_name.Goals as goal

pub names-init : goal.names-init
names-init c = c.in_ok-made.ensures

pub names-preserved : goal.names-preserved
names-preserved c =
    let f : Text → ℕ = λ name. unwrap_or (named name c.args.carried.now) 0 in
    each-more f c.args.names.now c.names.at c.index-names-at.result _ _ c.number_of-number.result c.names-test.true c.names.invariant c.index-names-at.is c.number_of-number.ensures c.in_ok-push.ensures.ok

pub returns : goal.returns
returns c =
    let f : Text → ℕ = λ name. unwrap_or (named name c.args.carried.now) 0 in
    each-done f c.args.names.now c.names.at _ (omega (arith, c.names-test.false)) c.names.invariant
