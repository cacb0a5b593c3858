use Rattle.std.proofs.Common.{◌∙◌, sym, ap}
use Rattle.ha_journal.specs.Journal.{Journal, automations}
use Rattle.ha_whole.specs.Segments.{segment}
use Rattle.whole_laws.proofs.CutLemmas.{is-cut}
use Rattle.segment_carry.specs.ByName.{rule_order}
use Rattle.ha_engine.specs.Core.{Core}
use Rattle.ha_engine.proofs.engine.Machine.ordered.Goals as goal

pub returns : goal.returns
returns c =
    let j : Journal = c.self.inside.journal.items in
    let seen = c.self.view_is in
    c.as_slice.ensures ∙ c.self.invariant.ordered (ap (λ (v : Core). v.is_spent) seen ∙ c.requires) ∙ ap rule_order (sym (is-cut j c.self.invariant.told.lies.entries).automations_are)
    ∙ ap (λ (v : Core). rule_order (automations (segment v.entries))) seen
