use Rattle.std.proofs.Common.{◌≡◌, ◌∙◌, ap, subst, sym, Bool, List, Option, ℕ, true}
use Rattle.std.specs.Prelude.{IsSome}
use Rattle.ha_sight.specs.Sight.{Automations, switch_at}
use Rattle.switch_book.specs.Book.{AreKept, are_placed, with_switch}
use Rattle.switch_book.proofs.PlaceLemmas.{kept-turned}
use Rattle.switch_book.proofs.StandLemmas.{turned-stands}
use Rattle.switch_book.proofs.book.Switches.set.Goals as goal

pub on_at-before-requires : goal.on_at-before-requires
on_at-before-requires c =
    subst (λ (ps : List ℕ). are_placed ps 0 c.as_slice.result.now ≡ true) (sym c.as_slice-places.ensures.value)
    (subst (λ (s : Automations). are_placed c.self.inside.places.items 0 s ≡ true) (sym c.as_slice.ensures.value) c.self.invariant.placed)

pub turn-requires : goal.turn-requires
turn-requires c = subst (λ (ps : List ℕ). are_placed ps 0 c.self.inside.switches.items ≡ true) (sym c.as_slice-places.ensures.value) c.self.invariant.placed

pub differs-requires : goal.differs-requires
differs-requires c =
    subst (λ (o : Option Bool). IsSome o) (sym (c.on_at-before.ensures ∙ ap (λ (s : Automations). switch_at s c.args.automation) (c.as_slice.ensures.value ∙ c.self.view_is))) c.requires

pub invariant_of-self : goal.invariant_of-self
invariant_of-self c =
    subst (λ (s : Automations). AreKept s c.self.inside.places.items) (sym c.turn.ensures) (kept-turned c.args.automation c.args.on c.self.inside.switches.items c.self.inside.places.items c.self.invariant)

pub returns-clause-switches : goal.returns-clause-switches
returns-clause-switches c = c.turn.ensures ∙ ap (λ (s : Automations). with_switch c.args.automation c.args.on s) c.self.view_is

pub returns-clause-changed : goal.returns-clause-changed
returns-clause-changed c = sym (c.on_at-before.ensures ∙ ap (λ (s : Automations). switch_at s c.args.automation) (c.as_slice.ensures.value ∙ c.self.view_is)) ∙ c.differs.ensures

pub returns-clause-stands : goal.returns-clause-stands
returns-clause-stands c =
    rw (← c.self.view_is)
    (turned-stands c.self.inside.switches.items c.turn.new.switches.items c.args.automation c.args.on c.self.invariant.storable
    (subst (λ (s : Automations). IsSome (switch_at s c.args.automation)) (sym c.self.view_is) c.requires) c.turn.ensures)
