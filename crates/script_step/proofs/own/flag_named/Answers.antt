use Rattle.std.proofs.Common.{◌∙◌, sym}
use Rattle.std.specs.Prelude.{if◌then◌else◌}
use Rattle.ha_value.specs.declared.value.Value.TheViews.{out-Value}
use Rattle.ha_config.specs.Words.{same}
use Rattle.ha_sight.specs.Calls.{flag_or_true}
use Rattle.script_step.proofs.OwnLemmas.{flag-more}
use Rattle.script_step.proofs.own.flag_named.Goals as goal

pub loop-i-preserved : goal.loop-i-preserved
loop-i-preserved c =
    let name = c.args.name.now in
    let p = c.index-pairs-i.result in
    c.flag_behind-flag.ensures ∙ (λ k. if same p.0 name then flag_or_true (out-Value p.1) else c.loop-i.invariant k)
    ∙ sym (flag-more name c.args.pairs.now c.loop-i.i p c.loop-i-test.true c.index-pairs-i.is)
