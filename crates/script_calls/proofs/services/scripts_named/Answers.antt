use Rattle.std.proofs.Common.{◌∙◌, sym, ap}
use Rattle.ha_sight.specs.Inner.{script_at}
use Rattle.ha_sight.specs.Once.{with_number}
use Rattle.ha_sight.proofs.OnceLemmas.{once-with}
use Rattle.script_calls.specs.Numbered.{scripts_with}
use Rattle.script_calls.proofs.services.scripts_named.Goals as goal

pub loop-i-preserved : goal.loop-i-preserved
loop-i-preserved c =
    let all = scripts_with c.args.numbers.now c.args.scripts.now in
    let t = c.index-targets-i.result in
    c.in_ok-add_once.ensures ∙ (λ k. with_number (c.script_at.ensures k) c.loop-i.found) ∙ ap (with_number _) c.loop-i.invariant
    ∙ sym (once-with (script_at all) c.args.targets.now c.loop-i.i t c.loop-i-test.true c.index-targets-i.is)
