use Rattle.std.proofs.Common.{◌≡◌, ◌∙◌, List, length, ap, sym, subst}
use Rattle.std.specs.Prelude.{option_and_then, slice_get}
use Rattle.ha_config.specs.declared.config.Automation.{Automation}
use Rattle.ha_config.specs.Equal.{same_flag}
use Rattle.ha_config.specs.Names.{names_of}
use Rattle.ha_journal.specs.Journal.{Journal, automations}
use Rattle.ha_sight.specs.Sight.{switch_at}
use Rattle.ha_whole.specs.Segments.{segment}
use Rattle.ha_whole.specs.Whole.{same_pairs_by}
use Rattle.segment_carry.specs.ByName.{listed}
use Rattle.switch_book.specs.Book.{StandsFor}
use Rattle.engine_parts.specs.Numbers.{numbers_in}
use Rattle.ha_engine.specs.Core.{Core}
use Rattle.ha_engine.specs.Places.{ArePlaces}
use Rattle.ha_engine.proofs.KeptLemmas.{order-places}
use Rattle.ha_engine.proofs.SameLemmas.{flags-listed}
use Rattle.ha_engine.proofs.engine.Machine.keeps_switches.Goals as goal

pub are_same_switches-requires : goal.are_same_switches-requires
are_same_switches-requires c =
    subst (λ (all : List Automation). ArePlaces (length all) c.ordered.result.now) (sym c.rules.ensures)
    (subst (ArePlaces (length (automations (segment c.args.self.now.entries)))) (sym c.ordered.ensures) (order-places (automations (segment c.args.self.now.entries))))

pub returns : goal.returns
returns c =
    let followed = c.self.invariant.followed (ap (λ (v : Core). v.is_spent) c.self.view_is ∙ c.requires) in
    let s : Journal = segment c.args.self.now.entries in
    let sw = c.self.inside.parts.switches in
    let stands : StandsFor sw s = subst (λ (v : Core). StandsFor sw (segment v.entries)) c.self.view_is followed.kept.going.sees.switches_stand in
    let numbers : c.as_slice-2.result.now ≡ numbers_in s = c.as_slice-2.ensures ∙ followed.kept.going.sees.looks.numbers_are ∙ ap (λ (v : Core). numbers_in (segment v.entries)) c.self.view_is in
    c.are_same_switches.ensures
    ∙ (λ i. same_pairs_by same_flag (c.as_slice.ensures i) (listed (names_of (c.rules.ensures i)) (λ a. option_and_then (switch_at sw) (slice_get c.as_slice-2.result.now a)) (c.ordered.ensures i)))
    ∙ ap (same_pairs_by same_flag c.args.switches.now) (flags-listed s c.as_slice-2.result.now numbers sw stands)
