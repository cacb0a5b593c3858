use Rattle.std.proofs.Common.{◌≡◌, ◌≤◌, ◌<◌, ◌+◌, ◌^◌, ◌∙◌, ℕ, List, ap, arith, length, subst, sym, take, true}
use Rattle.std.specs.Prelude.{nat_lt}
use Rattle.std.specs.List.{list_all}
use Rattle.ha_config.specs.declared.config.Automation.{Automation}
use Rattle.ha_config.specs.Equality.{same_automation}
use Rattle.conf_reload.proofs.PlanLemmas.{front-below, front-whole, plan-here}
use Rattle.conf_reload.proofs.numbers.plan_rules.Goals as goal

pub front-own-requires : goal.front-own-requires
front-own-requires c = (let same = ap length c.as_slice.ensures in omega (arith, same, c.requires.whole, c.len.ensures))

pub plan_of-requires-clause-whole : goal.plan_of-requires-clause-whole
plan_of-requires-clause-whole c =
    let within : c.len.result ≤ length c.as_slice.result.now = (let same = ap length c.as_slice.ensures in omega (arith, same, c.requires.whole, c.len.ensures)) in
    front-whole c.len.result c.as_slice.result.now c.front-own.result.now within c.front-own.ensures ∙ c.len.ensures ∙ ap length (sym c.as_slice-2.ensures)

pub plan_of-requires-clause-below : goal.plan_of-requires-clause-below
plan_of-requires-clause-below c =
    subst (λ (l : List ℕ). list_all (λ n. nat_lt n c.args.free) l ≡ true) (sym (c.front-own.ensures ∙ ap (take c.len.result) c.as_slice.ensures))
    (front-below c.args.free c.len.result c.args.numbers.now c.requires.below)

pub plan_of-requires-clause-room : goal.plan_of-requires-clause-room
plan_of-requires-clause-room c = subst (λ (l : List Automation). c.args.free + length l < 2 ^ 32) (sym c.as_slice-3.ensures) c.requires.room

pub returns : goal.returns
returns c =
    let own = c.front-own.ensures ∙ (λ i. take (c.len.ensures i) (c.as_slice.ensures i)) in
    plan-here same_automation c.front-own.result.now _ c.as_slice-2.result.now _ c.as_slice-3.result.now _ c.args.free c.plan_of.result own c.as_slice-2.ensures c.as_slice-3.ensures c.plan_of.ensures
