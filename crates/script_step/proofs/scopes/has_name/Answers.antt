use Rattle.std.proofs.Common.{◌∙◌, ◌+◌, ◌-◌, ◌<◌, sym, arith, drop, length, take}
use Rattle.std.specs.Prelude.{◌||◌}
use Rattle.ha_config.specs.Words.{has_name}
use Rattle.script_step.proofs.NameLemmas.{name-at}
use Rattle.script_step.proofs.scopes.has_name.Goals as goal

pub returns-then-is_named : goal.returns-then-is_named
returns-then-is_named c =
    let name = c.args.name.now in
    let ps = c.args.pairs.now in
    let i = c.loop-i.i in
    let within : i < length ps = omega (arith, c.loop-i-test.true, c.requires) in
    sym (c.loop-i.invariant ∙ name-at name ps i c.args.to c.loop-i-test.true within
    ∙ (λ k. (sym c.is_named.ensures ∙ c.if-is_named.true) k || has_name name (take (c.args.to - (i + 1)) (drop (i + 1) ps))))

pub loop-i-preserved : goal.loop-i-preserved
loop-i-preserved c =
    let name = c.args.name.now in
    let ps = c.args.pairs.now in
    let i = c.loop-i.i in
    let within : i < length ps = omega (arith, c.loop-i-test.true, c.requires) in
    c.loop-i.invariant ∙ name-at name ps i c.args.to c.loop-i-test.true within
    ∙ (λ k. (sym c.is_named.ensures ∙ c.if-is_named.false) k || has_name name (take (c.args.to - (i + 1)) (drop (i + 1) ps)))
