use Rattle.std.proofs.Common.{◌≡◌, ◌≤◌, ◌∙◌, List, ℕ, false, ap, sym, subst}
use Rattle.std.specs.Prelude.{Some, length, nat_eq, slice_get}
use Rattle.std.specs.List.{list_any}
use Rattle.ha_config.specs.declared.config.Automation.{Automation}
use Rattle.ha_config.proofs.ListLemmas.{true-false}
use Rattle.segment_view.proofs.ViewLemmas.{rule-missing, rule-there, rule-within, within-taken}
use Rattle.segment_view.proofs.force.rule_of.Goals as goal

pub first_numbers-own-requires : goal.first_numbers-own-requires
first_numbers-own-requires c =
    subst (λ (l : List Automation). length l ≤ length c.args.numbers.now) (sym c.as_slice-rules.ensures) (rule-within c.requires.0 c.args.config.now c.args.numbers.now c.requires.1)

pub unreachable-requires : goal.unreachable-requires
unreachable-requires c =
    let none = subst (λ (l : List ℕ). list_any (λ m. nat_eq m c.args.automation) l ≡ false) c.first_numbers-own.ensures c.in-None.ensures in
    true-false (sym c.requires.2 ∙ rule-missing c.requires.0 c.args.config.now c.args.numbers.now (length c.as_slice-rules.result.now) c.args.automation c.requires.1 (ap length c.as_slice-rules.ensures) none)

pub rule_there-requires : goal.rule_there-requires
rule_there-requires c =
    within-taken c.args.numbers.now (length c.as_slice-rules.result.now) c.in-Some.at c.args.automation
    (subst (λ (l : List ℕ). slice_get l c.in-Some.at ≡ Some c.args.automation) c.first_numbers-own.ensures c.in-Some.ensures)

pub returns : goal.returns
returns c j shown has =
    rule-there j c.args.config.now c.args.numbers.now (length c.as_slice-rules.result.now) c.in-Some.at c.args.automation c.rule_there.result.now shown (ap length c.as_slice-rules.ensures)
    (subst (λ (l : List ℕ). slice_get l c.in-Some.at ≡ Some c.args.automation) c.first_numbers-own.ensures c.in-Some.ensures)
    (subst (λ (l : List Automation). slice_get l c.in-Some.at ≡ Some c.rule_there.result.now) c.as_slice-rules.ensures c.rule_there.ensures)
