use Rattle.std.proofs.Common.{◌≡◌, ◌∙◌, ap, subst, sym}
use Rattle.std.specs.Prelude.{None, slice_get, unwrap_or}
use Rattle.std.proofs.lemmas.Result.{IfOk-weaker}
use Rattle.ha_config.specs.Names.{names_of}
use Rattle.ha_config.specs.StoreText.{in_name_order}
use Rattle.ha_journal.specs.Journal.{Journal, automations}
use Rattle.ha_whole.specs.Lasts.{lasts}
use Rattle.ha_whole.specs.Segments.{segment}
use Rattle.whole_laws.proofs.CutLemmas.{is-cut}
use Rattle.segment_carry.specs.ByName.{listed, rule_order}
use Rattle.segment_carry.proofs.MomentLemmas.{moments-listed}
use Rattle.store_text.specs.Store.{AreMoments, Moments}
use Rattle.ha_engine.specs.Core.{Core}
use Rattle.ha_engine.proofs.StoredLemmas.{told-storable}
use Rattle.ha_engine.proofs.engine.Machine.last_moments.Goals as goal

pub returns-clause-moments : goal.returns-clause-moments
returns-clause-moments c =
    let j : Journal = c.self.inside.journal.items in
    let s : Journal = segment c.args.self.now.entries in
    let order : c.as_slice.result.now ≡ rule_order (automations s)
    = c.as_slice.ensures ∙ c.self.invariant.ordered (ap (λ (v : Core). v.is_spent) c.self.view_is ∙ c.requires)
    ∙ ap rule_order (sym (is-cut j c.self.invariant.told.lies.entries).automations_are) ∙ ap (λ (v : Core). rule_order (automations (segment v.entries))) c.self.view_is in
    IfOk-weaker c.rule_moments.result _ _
    (λ (made : Moments) h. h ∙ (λ i. listed (names_of (c.rules.ensures i)) (λ a. unwrap_or (slice_get c.as_slice-2.result.now a) None) (order i)) ∙ moments-listed s c.as_slice-2.result.now (c.as_slice-2.ensures.value ∙ c.in_ok-lasts.ensures))
    c.rule_moments.ensures

pub returns-clause-storable : goal.returns-clause-storable
returns-clause-storable c =
    let j : Journal = c.self.inside.journal.items in
    let spent = ap (λ (v : Core). v.is_spent) c.self.view_is ∙ c.requires in
    let s : Journal = segment c.args.self.now.entries in
    let order : c.as_slice.result.now ≡ rule_order (automations s)
    = c.as_slice.ensures ∙ c.self.invariant.ordered spent
    ∙ ap rule_order (sym (is-cut j c.self.invariant.told.lies.entries).automations_are) ∙ ap (λ (v : Core). rule_order (automations (segment v.entries))) c.self.view_is in
    let storable : AreMoments (in_name_order (lasts s))
    = subst (λ (v : Core). AreMoments (in_name_order (lasts (segment v.entries)))) c.self.view_is
    (told-storable j c.self.inside.bounds c.self.inside.book c.self.inside.runs c.self.inside.parts c.self.inside.lasts.items c.self.inside.reset c.self.inside.moved c.self.invariant.told (c.self.invariant.followed spent) (c.self.invariant.noted spent)) in
    IfOk-weaker c.rule_moments.result _ _
    (λ (made : Moments) h. subst AreMoments
    (sym (h ∙ (λ i. listed (names_of (c.rules.ensures i)) (λ a. unwrap_or (slice_get c.as_slice-2.result.now a) None) (order i)) ∙ moments-listed s c.as_slice-2.result.now (c.as_slice-2.ensures.value ∙ c.in_ok-lasts.ensures)))
    storable)
    c.rule_moments.ensures
