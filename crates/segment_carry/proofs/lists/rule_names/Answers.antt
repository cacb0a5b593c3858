use Rattle.std.proofs.Common.{◌∙◌}
use Rattle.segment_carry.proofs.ByNameLemmas.{named-at, names-done, names-more}
use Rattle.segment_carry.proofs.lists.rule_names.Goals as goal

pub automations-preserved : goal.automations-preserved
automations-preserved c =
    let all = c.args.automations.now in
    names-more all c.automations.at _ _ _ c.automations-test.true c.automations.invariant
    (c.in_ok-name.ensures ∙ named-at all c.automations.at c.index-automations-at.result c.automations-test.true) c.in_ok-push.ensures.ok

pub returns : goal.returns
returns c = names-done c.args.automations.now c.automations.at _ c.automations-test.false c.automations.invariant
