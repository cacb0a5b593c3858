use Rattle.std.proofs.Common.{◌∙◌, sym, ap, subst}
use Rattle.ha_journal.specs.Force.{IsAlike, force}
use Rattle.ha_journal.specs.Journal.{Journal, automations, configured}
use Rattle.ha_journal.proofs.AlikeLaws.{alike-rules}
use Rattle.ha_whole.specs.Segments.{segment}
use Rattle.unit_book.specs.Book.{Holds}
use Rattle.ha_engine.specs.Core.{Core}
use Rattle.ha_engine.proofs.engine.Machine.rules.Goals as goal

pub configuration-requires : goal.configuration-requires
configuration-requires c =
    let j : Journal = c.self.inside.journal.items in
    (force (segment j), subst (λ (i : Journal). Holds i (force (segment j)) c.self.inside.book) (sym c.as_slice.ensures.value) c.self.invariant.told.holds)

pub returns : goal.returns
returns c =
    let j : Journal = c.self.inside.journal.items in
    let alike : IsAlike c.configuration.result.now (configured (segment j))
    = c.configuration.ensures (force (segment j)) (subst (λ (i : Journal). Holds i (force (segment j)) c.self.inside.book) (sym c.as_slice.ensures.value) c.self.invariant.told.holds) in
    c.as_slice-2.ensures ∙ alike-rules c.configuration.result.now (configured (segment j)) alike ∙ ap (λ (v : Core). automations (segment v.entries)) c.self.view_is
