use Rattle.std.proofs.Common.{◌∙◌, ◌≤◌, List, ap, length, subst, sym, arith}
use Rattle.std.proofs.lemmas.List.{length-map}
use Rattle.ha_config.specs.declared.config.Automation.{Automation}
use Rattle.ha_config.specs.Words.{Text}
use Rattle.segment_carry.specs.ByName.{by_name, rule_order}
use Rattle.segment_carry.proofs.AgainLemmas.{made-same}
use Rattle.segment_carry.proofs.lists.rule_order.Goals as goal

pub by_name-requires : goal.by_name-requires
by_name-requires c =
    let all = c.args.automations.now in
    let made = length-map all (λ (a : Automation). a.name) in
    subst (λ (l : List Text). length l ≤ 2_048) (sym (c.as_slice.ensures ∙ c.in_ok-names.ensures)) (omega (arith, c.requires, made))

pub returns : goal.returns
returns c = made-same c.by_name.result _ (rule_order c.args.automations.now) (ap by_name (c.as_slice.ensures ∙ c.in_ok-names.ensures)) c.by_name.ensures
