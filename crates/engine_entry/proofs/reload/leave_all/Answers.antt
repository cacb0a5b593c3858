use Rattle.std.proofs.Common.{List, get_or, subst, ap}
use Rattle.std.proofs.lemmas.List.{take_all}
use Rattle.ha_config.specs.declared.config.Automation.{Automation}
use Rattle.engine_entry.specs.Reloaded.{HaveLeft}
use Rattle.engine_entry.proofs.ReloadStates.{left-next}
use Rattle.engine_entry.proofs.reload.leave_all.Goals as goal

pub rules-init : goal.rules-init
rules-init c j k leaving = (leaving.halfway, tt)

pub rules-preserved : goal.rules-preserved
rules-preserved c j k leaving =
    let all : List Automation = c.args.rules.now in
    let y : Automation = get_or all c.rules.at c.index-rules-at.result in
    left-next j k c.args.new.now all c.rules.at y c.rules.states c.leave_one.new.states c.args.states.now c.rules.before c.leave_one.new.before c.args.before.now
    c.rules-test.true (ap (get_or all c.rules.at) c.index-rules-at.is) leaving c.in_ok-leave_one.ensures.left c.in_ok-leave_one.ensures.same (c.rules.invariant j k leaving)

pub returns : goal.returns
returns c j k leaving =
    let inv = c.rules.invariant j k leaving in
    (inv.0, subst (λ (l : List Automation). HaveLeft j k c.args.new.now c.rules.before l) (take_all c.rules.at c.args.rules.now c.rules-test.false) inv.1)
