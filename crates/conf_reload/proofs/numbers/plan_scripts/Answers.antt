use Rattle.std.proofs.Common.{◌≡◌, ◌<◌, ◌+◌, ◌^◌, ◌∙◌, ℕ, List, ap, arith, length, subst, sym, drop, true}
use Rattle.std.specs.Prelude.{nat_lt}
use Rattle.std.specs.List.{list_all}
use Rattle.ha_config.specs.declared.config.Script.{Script}
use Rattle.ha_config.specs.Equality.{same_script}
use Rattle.conf_reload.proofs.PlanLemmas.{behind-below, behind-whole, plan-here}
use Rattle.conf_reload.proofs.numbers.plan_scripts.Goals as goal

pub behind-own-requires : goal.behind-own-requires
behind-own-requires c = (let same = ap length c.as_slice.ensures in omega (arith, same, c.requires.whole, c.len.ensures))

pub plan_of-requires-clause-whole : goal.plan_of-requires-clause-whole
plan_of-requires-clause-whole c =
    let whole : length c.as_slice.result.now ≡ c.len.result + length c.args.old.now.scripts = (let same = ap length c.as_slice.ensures in omega (arith, same, c.requires.whole, c.len.ensures)) in
    behind-whole c.len.result (length c.args.old.now.scripts) c.as_slice.result.now c.behind-own.result.now whole c.behind-own.ensures ∙ ap length (sym c.as_slice-2.ensures)

pub plan_of-requires-clause-below : goal.plan_of-requires-clause-below
plan_of-requires-clause-below c =
    subst (λ (l : List ℕ). list_all (λ n. nat_lt n c.args.free) l ≡ true) (sym (c.behind-own.ensures ∙ ap (drop c.len.result) c.as_slice.ensures))
    (behind-below c.args.free c.len.result c.args.numbers.now c.requires.below)

pub plan_of-requires-clause-room : goal.plan_of-requires-clause-room
plan_of-requires-clause-room c = subst (λ (l : List Script). c.args.free + length l < 2 ^ 32) (sym c.as_slice-3.ensures) c.requires.room

pub returns : goal.returns
returns c =
    let own = c.behind-own.ensures ∙ (λ i. drop (c.len.ensures i) (c.as_slice.ensures i)) in
    plan-here same_script c.behind-own.result.now _ c.as_slice-2.result.now _ c.as_slice-3.result.now _ c.args.free c.plan_of.result own c.as_slice-2.ensures c.as_slice-3.ensures c.plan_of.ensures
