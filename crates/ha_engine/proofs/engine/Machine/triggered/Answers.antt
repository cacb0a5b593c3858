use Rattle.std.proofs.Common.{◌≡◌, ◌∙◌, ℕ, Option, map, sym, ap}
use Rattle.std.specs.Prelude.{None, slice_get, unwrap_or}
use Rattle.std.proofs.lemmas.Result.{IfOk-weaker}
use Rattle.ha_config.specs.declared.config.Automation.{Automation}
use Rattle.ha_journal.specs.Journal.{Journal, automations}
use Rattle.ha_whole.specs.Lasts.{last_triggered}
use Rattle.ha_whole.specs.Segments.{segment}
use Rattle.named_runs.specs.Named.{first_in}
use Rattle.engine_parts.specs.Numbers.{rule_numbers}
use Rattle.ha_engine.specs.Core.{Core}
use Rattle.ha_engine.proofs.StoredLemmas.{rules-last}
use Rattle.ha_engine.proofs.engine.Machine.triggered.Goals as goal

pub returns : goal.returns
returns c =
    let j : Journal = c.self.inside.journal.items in
    let followed = c.self.invariant.followed (ap (λ (v : Core). v.is_spent) c.self.view_is ∙ c.requires) in
    let numbers : c.numbered.result.now ≡ rule_numbers (segment j) = c.numbered.ensures ∙ ap (λ (v : Core). rule_numbers (segment v.entries)) (sym c.self.view_is) in
    IfOk-weaker c.lasts_of_rules.result _ _
    (λ ls h. h
    ∙ (λ i. map (λ n. unwrap_or (slice_get (c.as_slice.ensures.value i) (first_in (c.firsts.ensures i) n)) None) (numbers i))
    ∙ rules-last (segment j) c.self.inside.book c.self.inside.lasts.items followed.lasts_are
    ∙ ap (λ (v : Core). map {A = Automation} {B = Option ℕ} (λ x. last_triggered (segment v.entries) x.name) (automations (segment v.entries))) c.self.view_is)
    c.lasts_of_rules.ensures
