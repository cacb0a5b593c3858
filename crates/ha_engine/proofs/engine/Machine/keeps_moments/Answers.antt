use Rattle.std.proofs.Common.{◌≡◌, ◌∙◌, List, length, ap, sym, subst}
use Rattle.std.specs.Prelude.{None, nat_eq, option_and_then, slice_get, unwrap_or}
use Rattle.ha_config.specs.declared.config.Automation.{Automation}
use Rattle.ha_config.specs.Names.{names_of}
use Rattle.ha_journal.specs.Journal.{Journal, automations}
use Rattle.ha_whole.specs.Segments.{segment}
use Rattle.ha_whole.specs.Whole.{same_pairs_by}
use Rattle.named_runs.specs.Named.{first_in}
use Rattle.segment_carry.specs.ByName.{listed}
use Rattle.engine_parts.specs.Numbers.{numbers_in}
use Rattle.ha_engine.specs.Core.{Core}
use Rattle.ha_engine.specs.Places.{ArePlaces}
use Rattle.ha_engine.specs.Told.{AreLasts}
use Rattle.ha_engine.proofs.KeptLemmas.{order-places}
use Rattle.ha_engine.proofs.SameLemmas.{lasts-listed}
use Rattle.ha_engine.proofs.engine.Machine.keeps_moments.Goals as goal

pub are_same_moments-requires : goal.are_same_moments-requires
are_same_moments-requires c =
    subst (λ (all : List Automation). ArePlaces (length all) c.ordered.result.now) (sym c.rules.ensures)
    (subst (ArePlaces (length (automations (segment c.args.self.now.entries)))) (sym c.ordered.ensures) (order-places (automations (segment c.args.self.now.entries))))

pub returns : goal.returns
returns c =
    let followed = c.self.invariant.followed (ap (λ (v : Core). v.is_spent) c.self.view_is ∙ c.requires) in
    let s : Journal = segment c.args.self.now.entries in
    let ls = c.self.inside.lasts.items in
    let known : AreLasts s c.self.inside.book ls = subst (λ (v : Core). AreLasts (segment v.entries) c.self.inside.book ls) c.self.view_is followed.lasts_are in
    let numbers : c.as_slice-3.result.now ≡ numbers_in s = c.as_slice-3.ensures ∙ followed.kept.going.sees.looks.numbers_are ∙ ap (λ (v : Core). numbers_in (segment v.entries)) c.self.view_is in
    c.are_same_moments.ensures
    ∙ (λ i. same_pairs_by nat_eq (c.as_slice.ensures i)
    (listed (names_of (c.rules.ensures i)) (λ a. option_and_then (λ n. unwrap_or (slice_get (c.as_slice-2.ensures.value i) (first_in (c.firsts.ensures i) n)) None) (slice_get c.as_slice-3.result.now a)) (c.ordered.ensures i)))
    ∙ ap (same_pairs_by nat_eq c.args.moments.now) (lasts-listed s c.as_slice-3.result.now numbers c.self.inside.book ls known)
