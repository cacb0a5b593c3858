use Rattle.std.proofs.Common.{ap, ◌∙◌}
use Rattle.ha_journal.specs.Force.{force}
use Rattle.ha_journal.specs.Journal.{Journal, more, units}
use Rattle.ha_model.specs.Records.{actions_of}
use Rattle.segment_view.proofs.segment.Segment.script.Goals as goal

pub returns : goal.returns
returns c = c.actions.ensures (force (more c.self.inside.entries c.self.inside.last.now)) c.self.invariant.holds ∙ ap (λ (j : Journal). actions_of (units j) c.args.unit) c.self.view_is
