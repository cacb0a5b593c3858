use Rattle.std.proofs.Common.{ap, subst, ◌∙◌}
use Rattle.ha_config.specs.declared.config.Config.{Config}
use Rattle.ha_journal.specs.Force.{IsAlike, force}
use Rattle.ha_journal.specs.Journal.{Journal, automations, configured, more}
use Rattle.segment_view.proofs.segment.Segment.configuration.Goals as goal

pub configuration-requires : goal.configuration-requires
configuration-requires c = (force (more c.self.inside.entries c.self.inside.last.now), c.self.invariant.holds)

pub returns-clause-automations : goal.returns-clause-automations
returns-clause-automations c =
    ap (λ (x : Config). x.automations) (c.configuration.ensures (force (more c.self.inside.entries c.self.inside.last.now)) c.self.invariant.holds)
    ∙ ap (λ (j : Journal). automations j) c.self.view_is

pub returns-clause-configured : goal.returns-clause-configured
returns-clause-configured c =
    subst (λ (j : Journal). IsAlike c.configuration.result.now (configured j)) c.self.view_is
    (c.configuration.ensures (force (more c.self.inside.entries c.self.inside.last.now)) c.self.invariant.holds)
