use Rattle.std.proofs.Common.{ap, ◌∙◌}
use Rattle.ha_journal.specs.Journal.{Journal, helpers}
use Rattle.segment_view.proofs.behind.Behind.first_configuration.Goals as goal

pub first_config-requires : goal.first_config-requires
first_config-requires c = c.self.invariant.boots

pub returns : goal.returns
returns c = c.self.invariant.helpers_are c.first_config.result.now c.first_config.ensures ∙ ap (λ (j : Journal). helpers j) c.self.view_is
