use Rattle.std.proofs.Common.{◌≡◌, ap, ◌∙◌, arith}
use Rattle.ha_config.specs.Words.{up_to}
use Rattle.ha_engine.proofs.BeginLemmas.{up-to-more}
use Rattle.ha_engine.proofs.boot.first_numbers.Goals as goal

pub each-init : goal.each-init
each-init c = (c.in_ok-numbers.ensures, omega arith)

pub each-preserved : goal.each-preserved
each-preserved c = (up-to-more c.each.at _ _ c.each.invariant.0 c.in_ok-push.ensures.ok, omega (arith, c.each-test.true))

pub returns : goal.returns
returns c = (let end : c.each.at ≡ c.args.count = omega (arith, c.each.invariant.1, c.each-test.false) in c.each.invariant.0 ∙ ap up_to end)
