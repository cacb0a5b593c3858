use Rattle.std.proofs.Common.{◌≡◌, ◌∙◌, ap, subst, sym, List, ℕ, true}
use Rattle.ha_sight.specs.Sight.{Automations, switch_at}
use Rattle.switch_book.specs.Book.{are_placed}
use Rattle.switch_book.proofs.StandLemmas.{seen-on}
use Rattle.switch_book.proofs.book.Switches.is_on.Goals as goal

pub on_at-requires : goal.on_at-requires
on_at-requires c =
    subst (λ (ps : List ℕ). are_placed ps 0 c.as_slice.result.now ≡ true) (sym c.as_slice-2.ensures.value)
    (subst (λ (s : Automations). are_placed c.self.inside.places.items 0 s ≡ true) (sym c.as_slice.ensures.value) c.self.invariant.placed)

pub returns-clause-value : goal.returns-clause-value
returns-clause-value c = c.on_at.ensures ∙ ap (λ (s : Automations). switch_at s c.args.automation) (c.as_slice.ensures.value ∙ c.self.view_is)

pub returns-clause-stands : goal.returns-clause-stands
returns-clause-stands c =
    rw (← c.self.view_is) (seen-on c.self.inside.switches.items c.args.automation _ (c.on_at.ensures ∙ ap (λ s. switch_at s c.args.automation) c.as_slice.ensures.value))
