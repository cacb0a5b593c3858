use Rattle.std.proofs.Common.{◌≡◌, ◌≤◌, ◌∙◌, List, length, take, sym, ap, subst}
use Rattle.ha_config.specs.declared.config.Automation.{Automation}
use Rattle.ha_journal.specs.Journal.{Journal, automations}
use Rattle.ha_whole.specs.Segments.{segment}
use Rattle.whole_laws.proofs.CutLemmas.{is-cut}
use Rattle.engine_parts.specs.Numbers.{rule_numbers}
use Rattle.ha_engine.specs.Core.{Core}
use Rattle.ha_engine.proofs.SameLemmas.{many-numbers}
use Rattle.ha_engine.proofs.StoredLemmas.{first-numbers}
use Rattle.ha_engine.proofs.engine.Machine.numbered.Goals as goal

pub rule_numbers-requires : goal.rule_numbers-requires
rule_numbers-requires c =
    let j : Journal = c.self.inside.journal.items in
    let followed = c.self.invariant.followed (ap (λ (v : Core). v.is_spent) c.self.view_is ∙ c.requires) in
    let rules : c.configuration.result.now.automations ≡ automations (segment j)
    = c.configuration.ensures.automations ∙ ap (λ (v : Core). automations v.entries) (sym c.self.view_is) ∙ sym (is-cut j c.self.invariant.told.lies.entries).automations_are in
    subst (λ (all : List Automation). length all ≤ length c.self.inside.parts.numbers) (sym rules) (many-numbers (segment j) c.self.inside.parts.numbers followed.kept.going.sees.looks.numbers_are)

pub returns : goal.returns
returns c =
    let j : Journal = c.self.inside.journal.items in
    let followed = c.self.invariant.followed (ap (λ (v : Core). v.is_spent) c.self.view_is ∙ c.requires) in
    let rules : c.configuration.result.now.automations ≡ automations (segment j)
    = c.configuration.ensures.automations ∙ ap (λ (v : Core). automations v.entries) (sym c.self.view_is) ∙ sym (is-cut j c.self.invariant.told.lies.entries).automations_are in
    c.rule_numbers.ensures ∙ (λ i. take (length (rules i)) c.self.inside.parts.numbers)
    ∙ first-numbers (segment j) c.self.inside.parts.numbers followed.kept.going.sees.looks.numbers_are
    ∙ ap (λ (v : Core). rule_numbers (segment v.entries)) c.self.view_is
