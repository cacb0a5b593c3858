use Rattle.std.proofs.Common.{sym, ap, subst, ◌∙◌}
use Rattle.ha_config.specs.declared.config.Config.{Config}
use Rattle.ha_journal.specs.Force.{IsAlike, force}
use Rattle.ha_journal.specs.Journal.{Journal, automations, configured}
use Rattle.ha_journal.proofs.AlikeLaws.{alike-rules}
use Rattle.ha_whole.specs.Segments.{segment}
use Rattle.whole_laws.proofs.CutLemmas.{is-cut}
use Rattle.unit_book.specs.Book.{Holds}
use Rattle.ha_engine.specs.Core.{Core}
use Rattle.ha_engine.proofs.engine.Machine.configuration.Goals as goal

pub configuration-requires : goal.configuration-requires
configuration-requires c =
    let j : Journal = c.self.inside.journal.items in
    (force (segment j), subst (λ (i : Journal). Holds i (force (segment j)) c.self.inside.book) (sym c.as_slice.ensures.value) c.self.invariant.told.holds)

pub returns-clause-automations : goal.returns-clause-automations
returns-clause-automations c =
    let j : Journal = c.self.inside.journal.items in
    let told = c.self.invariant.told in
    let alike : IsAlike c.configuration.result.now (configured (segment j))
    = c.configuration.ensures (force (segment j)) (subst (λ (i : Journal). Holds i (force (segment j)) c.self.inside.book) (sym c.as_slice.ensures.value) told.holds) in
    alike-rules c.configuration.result.now (configured (segment j)) alike ∙ ap (λ (d : Config). d.automations) (is-cut j told.lies.entries).configured_are ∙ ap (λ (v : Core). automations v.entries) c.self.view_is

pub returns-clause-configured : goal.returns-clause-configured
returns-clause-configured c =
    let j : Journal = c.self.inside.journal.items in
    let told = c.self.invariant.told in
    let alike : IsAlike c.configuration.result.now (configured (segment j))
    = c.configuration.ensures (force (segment j)) (subst (λ (i : Journal). Holds i (force (segment j)) c.self.inside.book) (sym c.as_slice.ensures.value) told.holds) in
    subst (IsAlike c.configuration.result.now) ((is-cut j told.lies.entries).configured_are ∙ ap (λ (v : Core). configured v.entries) c.self.view_is) alike
