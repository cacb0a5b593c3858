use Rattle.std.proofs.Common.{◌∙◌, ap}
use Rattle.std.specs.Prelude.{is_some}
use Rattle.ha_config.specs.Names.{automation_named}
use Rattle.unit_book.proofs.StepLemmas.{made-done, made-more}
use Rattle.unit_book.proofs.grown.listed_at.Goals as goal

pub names-preserved : goal.names-preserved
names-preserved c k is =
    made-more (λ name. is_some (automation_named k.automations name)) c.args.names.now c.names.at c.index-names-at.result _ _ _ c.names-test.true (c.names.invariant k is)
    (c.is_rule-is_listed.ensures k (c.config_at.ensures ∙ is) ∙ ap (λ name. is_some (automation_named k.automations name)) c.index-names-at.is) c.in_ok-push.ensures.items

pub returns : goal.returns
returns c k is = made-done (λ name. is_some (automation_named k.automations name)) c.args.names.now c.names.at _ c.names-test.false (c.names.invariant k is)
