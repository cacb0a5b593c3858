use Rattle.std.proofs.Common.{◌+◌, ◌++◌, ◌∙◌, arith, length}
use Rattle.ha_config.specs.Equality.{same_automation, same_script}
use Rattle.ha_config.specs.Numbered.{fresh, numbered}
use Rattle.conf_reload.specs.Plan.{numbers_of, rules_in, scripts_in}
use Rattle.conf_reload.proofs.PlanLemmas.{below-later, fresh-few}
use Rattle.conf_reload.proofs.numbers.plan.Goals as goal

pub plan_scripts-requires-clause-below : goal.plan_scripts-requires-clause-below
plan_scripts-requires-clause-below c = below-later c.args.free c.in_ok-rules.rules.free c.args.numbers.now (omega (arith, c.in_ok-rules.ensures.free_is)) c.requires.below

pub plan_scripts-requires-clause-room : goal.plan_scripts-requires-clause-room
plan_scripts-requires-clause-room c =
    let few = fresh-few same_automation (rules_in c.args.old.now c.args.numbers.now) c.args.new.now.automations in
    omega (arith, c.requires.room, c.in_ok-rules.ensures.free_is, few)

pub returns : goal.returns
returns c =
    let rules = c.in_ok-rules.ensures in
    let scripts = c.in_ok-scripts.ensures in
    let made = c.in_ok-made.ensures in
    let old = scripts_in c.args.old.now c.args.numbers.now in
    let new = c.args.new.now.scripts in record {
      numbers_are = made.numbers ∙ (λ i. rules.numbers_are i ++ (scripts.numbers_are ∙ (λ k. numbers_of (numbered same_script old (rules.free_is k) new))) i);
      kept_are = made.kept ∙ (λ i. rules.kept_are i ++ scripts.kept_are i);
      gone_are = made.gone ∙ (λ i. rules.gone_are i ++ scripts.gone_are i);
      free_is = made.free ∙ scripts.free_is ∙ (λ i. rules.free_is i + length (fresh same_script old new));
    }
