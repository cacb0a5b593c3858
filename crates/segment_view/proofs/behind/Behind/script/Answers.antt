use Rattle.std.proofs.Common.{ap, ◌∙◌}
use Rattle.ha_journal.specs.Force.{force}
use Rattle.ha_journal.specs.Journal.{Journal, units}
use Rattle.ha_model.specs.Records.{actions_of}
use Rattle.segment_view.proofs.behind.Behind.script.Goals as goal

pub returns : goal.returns
returns c = c.actions.ensures (force c.self.inside.entries) c.self.invariant.held.holds ∙ ap (λ (j : Journal). actions_of (units j) c.args.unit) c.self.view_is
