use Rattle.std.proofs.Common.{subst}
use Rattle.ha_journal.specs.Force.{force}
use Rattle.ha_journal.specs.Journal.{Journal}
use Rattle.unit_book.specs.Book.{Holds}
use Rattle.segment_view.proofs.segment.Segment.known.Goals as goal

pub returns : goal.returns
returns c = subst (λ (j : Journal). Holds c.self.inside.journal.now (force j) c.self.inside.book.now) c.self.view_is c.self.invariant.holds
