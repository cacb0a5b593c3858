use Rattle.std.proofs.Common.{◌∙◌, ap, sym, subst}
use Rattle.std.specs.Prelude.{Some, None, nat_eq, not, ◌&&◌}
use Rattle.ha_config.specs.Equal.{same_flag}
use Rattle.ha_config.specs.StoreText.{in_name_order}
use Rattle.ha_journal.specs.Journal.{Journal}
use Rattle.ha_journal.specs.States.{switches_of}
use Rattle.ha_whole.specs.Lasts.{lasts}
use Rattle.ha_whole.specs.Segments.{segment}
use Rattle.ha_whole.specs.Whole.{changes_store, same_pairs_by}
use Rattle.ha_engine.specs.Core.{Core}
use Rattle.ha_engine.specs.Engines.{IsStored}
use Rattle.ha_engine.specs.Noted.{changes_switches}
use Rattle.ha_engine.specs.declared.kept.Kept.{Kept}
use Rattle.ha_engine.proofs.SameLemmas.{reload-changes}
use Rattle.ha_engine.proofs.StoredLemmas.{store-told}
use Rattle.ha_engine.proofs.engine.Machine.has_changed.Goals as goal

pub has_switched-requires-clause-plain : goal.has_switched-requires-clause-plain
has_switched-requires-clause-plain c =
    let j : Journal = c.self.inside.journal.items in
    let stored : IsStored j None = subst (IsStored j) c.in-None.is (c.self.invariant.stored (ap (λ (v : Core). v.is_spent) c.self.view_is ∙ c.requires)) in
    subst (λ (v : Core). IsStored v.entries None) c.self.view_is stored

pub returns-in-Some : goal.returns-in-Some
returns-in-Some c =
    let j : Journal = c.self.inside.journal.items in
    let k : Kept = c.in-Some.kept in
    let stored : IsStored j (Some k) = subst (IsStored j) c.in-Some.is (c.self.invariant.stored (ap (λ (v : Core). v.is_spent) c.self.view_is ∙ c.requires)) in
    ap not (c.keeps_same.ensures ∙ ap (λ (v : Core). same_pairs_by same_flag k.switches (in_name_order (switches_of (segment v.entries))) && same_pairs_by nat_eq k.moments (in_name_order (lasts (segment v.entries)))) (sym c.self.view_is))
    ∙ reload-changes j k c.self.invariant.told.lies.entries stored
    ∙ ap (λ (v : Core). changes_store v.entries) c.self.view_is

pub returns-in-None : goal.returns-in-None
returns-in-None c =
    let j : Journal = c.self.inside.journal.items in
    let spent = ap (λ (v : Core). v.is_spent) c.self.view_is ∙ c.requires in
    let known = c.self.invariant.noted spent in
    let plain : IsStored j None = subst (IsStored j) c.in-None.is (c.self.invariant.stored spent) in
    c.either.ensures
    ∙ store-told j c.has_switched.result c.self.inside.moved (c.has_switched.ensures ∙ ap (λ (v : Core). changes_switches v.entries) (sym c.self.view_is)) (λ many. known.moved_is many plain)
    ∙ ap (λ (v : Core). changes_store v.entries) c.self.view_is
