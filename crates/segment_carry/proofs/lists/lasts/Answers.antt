use Rattle.std.proofs.Common.{◌∙◌}
use Rattle.ha_config.specs.Names.{name_of}
use Rattle.ha_whole.specs.Named.{named}
use Rattle.segment_carry.proofs.ByNameLemmas.{named-at}
use Rattle.segment_carry.proofs.SourceLemmas.{pushed-more}
use Rattle.segment_carry.proofs.lists.lasts.Goals as goal

pub automations-preserved : goal.automations-preserved
automations-preserved c =
    let all = c.args.automations.now in
    let told = c.moment_of.ensures ∙ (λ k. named (named-at all c.automations.at c.index-automations-at.result c.automations-test.true k) c.args.carried.now) in
    pushed-more (λ a. named (name_of all a) c.args.carried.now) c.automations.at _ _ _ c.automations.invariant told c.in_ok-push.ensures.items
