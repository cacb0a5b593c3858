use Rattle.std.proofs.Common.{◌≡◌, ◌≤◌, ◌∙◌, ap, length, subst, sym, true}
use Rattle.std.specs.Option.{option_copied}
use Rattle.ha_sight.specs.Sight.{Automations}
use Rattle.store_text.specs.Store.{AreStorable, by_names}
use Rattle.switch_book.specs.Book.{are_placed, restored}
use Rattle.switch_book.proofs.BookLemmas.{few-automations, storable-restored}
use Rattle.switch_book.proofs.StandLemmas.{restored-stands}
use Rattle.switch_book.proofs.book.Switches.restore.Goals as goal

pub opened_all-requires : goal.opened_all-requires
opened_all-requires c = subst (λ l. length l ≤ 1_024) (sym c.as_slice.ensures) (few-automations c.args.config.now.automations c.requires)

pub invariant_of-result : goal.invariant_of-result
invariant_of-result c =
    let all : c.in_ok-switches.switches.items ≡ restored (option_copied c.args.stored) c.args.config.now.automations
    = c.in_ok-switches.ensures ∙ ap (restored (option_copied c.args.stored)) c.as_slice.ensures in
    record {
      storable = subst (λ s. AreStorable (by_names s)) (sym all) (storable-restored c.args.config.now.automations (option_copied c.args.stored) c.requires);
      placed = subst (λ (s : Automations). are_placed c.in_ok-places.places.items 0 s ≡ true) c.as_slice-2.ensures.value c.in_ok-places.ensures;
    }

pub returns-clause-stands : goal.returns-clause-stands
returns-clause-stands c =
    restored-stands c.in_ok-switches.switches.items c.args.config.now (option_copied c.args.stored) (c.in_ok-switches.ensures ∙ ap (restored (option_copied c.args.stored)) c.as_slice.ensures)
