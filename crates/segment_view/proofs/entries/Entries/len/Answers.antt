use Rattle.std.proofs.Common.{ap, ◌∙◌, length}
use Rattle.ha_journal.specs.Journal.{configured}
use Rattle.segment_view.proofs.ViewLemmas.{length-seen}
use Rattle.segment_view.proofs.entries.Entries.len.Goals as goal

pub returns-clause-len : goal.returns-clause-len
returns-clause-len c = length-seen c.self.inside.boot.now (configured c.self.inside.before.now) c.self.inside.opening.now c.self.inside.settled.now c.self.inside.base ∙ ap length c.self.view_is

pub returns-clause-few : goal.returns-clause-few
returns-clause-few c = c.self.invariant.few
