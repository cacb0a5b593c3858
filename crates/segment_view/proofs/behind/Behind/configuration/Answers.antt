use Rattle.std.proofs.Common.{ap, subst, ◌∙◌}
use Rattle.ha_config.specs.declared.config.Config.{Config}
use Rattle.ha_journal.specs.Force.{IsAlike, force}
use Rattle.ha_journal.specs.Journal.{HasEntry, Journal, automations, configured}
use Rattle.segment_view.proofs.behind.Behind.configuration.Goals as goal

pub configuration-requires : goal.configuration-requires
configuration-requires c = (force c.self.inside.entries, c.self.invariant.held.holds)

pub returns-clause-automations : goal.returns-clause-automations
returns-clause-automations c =
    ap (λ (x : Config). x.automations) (c.configuration.ensures (force c.self.inside.entries) c.self.invariant.held.holds)
    ∙ ap (λ (j : Journal). automations j) c.self.view_is

pub returns-clause-configured : goal.returns-clause-configured
returns-clause-configured c =
    subst (λ (j : Journal). IsAlike c.configuration.result.now (configured j)) c.self.view_is (c.configuration.ensures (force c.self.inside.entries) c.self.invariant.held.holds)

pub returns-clause-some : goal.returns-clause-some
returns-clause-some c = subst (λ (j : Journal). HasEntry j) c.self.view_is c.self.invariant.held.some
