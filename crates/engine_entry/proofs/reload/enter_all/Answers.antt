use Rattle.std.proofs.Common.{List, get_or, subst, ap, ◌∙◌}
use Rattle.std.specs.Prelude.{Some}
use Rattle.std.proofs.lemmas.List.{take_all}
use Rattle.ha_config.specs.declared.config.Automation.{Automation}
use Rattle.ha_journal.specs.Switches.{same_switch}
use Rattle.engine_entry.specs.Reloaded.{HaveEntered}
use Rattle.engine_entry.proofs.ReloadStates.{entered-next}
use Rattle.engine_entry.proofs.reload.enter_all.Goals as goal

pub rules-init : goal.rules-init
rules-init c j k entering half = (half, tt, λ e h. h)

pub rules-preserved : goal.rules-preserved
rules-preserved c j k entering half =
    let all : List Automation = c.args.rules.now in
    let y : Automation = get_or all c.rules.at c.index-rules-at.result in
    let was = c.switch_before-was_on.ensures in
    let on = c.on_of-on.result in
    entered-next j k c.args.old.now c.args.had.now c.args.was.now all c.args.numbers.now c.args.switches.now c.args.now c.rules.at y on
    c.rules.states c.enter_one.new.states c.rules.before c.enter_one.new.before c.args.before.now c.rules-test.true (ap (get_or all c.rules.at) c.index-rules-at.is) entering c.on_of-on.ensures
    (λ other. c.in_ok-enter_one.ensures.changed ((λ i. same_switch (was i) (Some on)) ∙ other))
    (λ alike. c.in_ok-enter_one.ensures.same ((λ i. same_switch (was i) (Some on)) ∙ alike))
    (c.rules.invariant j k entering half)

pub returns : goal.returns
returns c j k entering half =
    let inv = c.rules.invariant j k entering half in
    (inv.0, subst (λ (l : List Automation). HaveEntered j k c.rules.before l) (take_all c.rules.at c.args.rules.now c.rules-test.false) inv.1, inv.2)
