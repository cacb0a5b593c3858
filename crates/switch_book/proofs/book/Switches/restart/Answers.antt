use Rattle.std.proofs.Common.{◌∙◌, ap, subst, sym, List}
use Rattle.ha_config.specs.declared.config.Automation.{Automation}
use Rattle.ha_sight.specs.Sight.{Automations}
use Rattle.switch_book.specs.Book.{AreKept, restarted}
use Rattle.switch_book.proofs.PlaceLemmas.{kept-restarted}
use Rattle.switch_book.proofs.StandLemmas.{restarted-stands}
use Rattle.switch_book.proofs.book.Switches.restart.Goals as goal

pub invariant_of-self : goal.invariant_of-self
invariant_of-self c =
    subst (λ (s : Automations). AreKept s c.self.inside.places.items) (sym c.reset_all.ensures) (kept-restarted c.as_slice.result.now c.self.inside.switches.items c.self.inside.places.items c.self.invariant)

pub returns-clause-stands : goal.returns-clause-stands
returns-clause-stands c =
    rw (← c.self.view_is) (
    restarted-stands c.self.inside.switches.items c.reset_all.new.switches.items c.args.config.now.automations
    (c.reset_all.ensures ∙ ap (λ (all : List Automation). restarted all c.self.inside.switches.items) c.as_slice.ensures)
    )
