use Rattle.std.proofs.Common.{◌≡◌, ◌≤◌, ◌∙◌, length, subst, sym, List, ℕ, true}
use Rattle.std.specs.Prelude.{zip}
use Rattle.ha_config.specs.declared.config.Automation.{Automation}
use Rattle.ha_sight.specs.Sight.{Automations}
use Rattle.store_text.specs.Store.{AreStorable, by_names}
use Rattle.switch_book.specs.Book.{are_placed, reloaded}
use Rattle.switch_book.proofs.BookLemmas.{storable-reloaded}
use Rattle.switch_book.proofs.StandLemmas.{entered-stands}
use Rattle.switch_book.proofs.book.Switches.reload.Goals as goal

pub entered_all-requires-clause-numbered : goal.entered_all-requires-clause-numbered
entered_all-requires-clause-numbered c = subst (λ (l : List Automation). length l ≤ length c.args.numbers.now) (sym c.as_slice-3.ensures) c.requires.numbered

pub entered_all-requires-clause-placed : goal.entered_all-requires-clause-placed
entered_all-requires-clause-placed c =
    subst (λ (ps : List ℕ). are_placed ps 0 c.as_slice.result.now ≡ true) (sym c.as_slice-2.ensures.value)
    (subst (λ (s : Automations). are_placed c.self.inside.places.items 0 s ≡ true) (sym c.as_slice.ensures.value) c.self.invariant.placed)

pub invariant_of-result : goal.invariant_of-result
invariant_of-result c =
    let all : c.in_ok-switches.switches.items ≡ reloaded c.self.inside.switches.items (zip c.args.numbers.now c.args.config.now.automations)
    = c.in_ok-switches.ensures ∙ (λ i. reloaded (c.as_slice.ensures.value i) (zip c.args.numbers.now (c.as_slice-3.ensures i))) in
    record {
      storable = subst (λ (s : Automations). AreStorable (by_names s)) (sym all) (storable-reloaded c.args.config.now.automations c.self.inside.switches.items c.args.numbers.now c.requires.sound c.requires.numbered);
      placed = subst (λ (s : Automations). are_placed c.in_ok-places.places.items 0 s ≡ true) c.as_slice-4.ensures.value c.in_ok-places.ensures;
    }

pub returns-clause-switches : goal.returns-clause-switches
returns-clause-switches c =
    c.in_ok-switches.ensures ∙ (λ i. reloaded (c.as_slice.ensures.value i) (zip c.args.numbers.now (c.as_slice-3.ensures i)))
    ∙ (λ i. reloaded (c.self.view_is i) (zip c.args.numbers.now c.args.config.now.automations))

pub returns-clause-stands : goal.returns-clause-stands
returns-clause-stands c =
    rw (← c.self.view_is)
    (entered-stands c.self.inside.switches.items c.in_ok-switches.switches.items c.args.config.now.automations c.args.numbers.now
    (c.in_ok-switches.ensures ∙ (λ i. reloaded (c.as_slice.ensures.value i) (zip c.args.numbers.now (c.as_slice-3.ensures i)))))
