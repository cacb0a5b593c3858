use Rattle.std.proofs.Common.{◌∙◌, sym, ap, subst, Option, List, Some, Ok, ◌&&◌, refl, false}
use Rattle.yaml_scan.specs.Answers.{Gives}
use Rattle.ha_config.specs.declared.config.Condition.{Condition}
use Rattle.ha_config.specs.declared.config.Condition.TheVariants as made_of
use Rattle.yaml_tree.specs.Readers.{is_null_word}
use Rattle.conf_field.specs.declared.key.Key.TheVariants as key
use Rattle.conf_field.specs.declared.table.Row.{Row}
use Rattle.conf_field.specs.Readings.{Read, keep, made}
use Rattle.conf_field.specs.Fields.{Pair, row}
use Rattle.conf_field.proofs.Finds.{at_index}
use Rattle.conf_field.proofs.Made.{kept_more}
use Rattle.conf_cond.specs.declared.kind.ConditionKind.{ConditionKind}
use Rattle.conf_cond.specs.declared.kind.KindKey.{KindKey}
use Rattle.conf_cond.specs.Conditions as conditions
use Rattle.conf_cond.proofs.Opened.{one_scalar, one_list, one_map, all_null, all_scalar, all_list, all_map}
use Rattle.conf_cond.proofs.conditions.+conditions.Goals as goal

pub one-returns-in-Scalar : goal.one-returns-in-Scalar
one-returns-in-Scalar t c =
    let Whole : Read (Option Condition) → Type 0 = λ r. Gives r c.scalar_rule.result in
    subst Whole (sym (one_scalar c.args.node.now c.args.action c.in-Scalar.text c.bytes.result.now c.in-Scalar.plain c.in-Scalar.is c.bytes.ensures.value))
    c.scalar_rule.ensures

pub one-returns-in-Map : goal.one-returns-in-Map
one-returns-in-Map t c =
    let Whole : Read (Option Condition) → Type 0 = λ r. Gives r c.of_map.result in
    subst Whole (sym (one_map c.args.node.now c.args.action c.in-Map.pairs c.as_slice.result.now c.in-Map.is c.as_slice.ensures)) c.of_map.ensures

pub one-returns-in-List : goal.one-returns-in-List
one-returns-in-List t c =
    let Whole : Read (Option Condition) → Type 0 = λ r. Gives r c.bad.result in
    subst Whole (sym (one_list c.args.node.now c.args.action c.in-List._items c.in-List.is)) c.bad.ensures

pub inside-returns-in-Some : goal.inside-returns-in-Some
inside-returns-in-Some t c =
    let pairs = c.args.pairs.now in
    let x = c.index-pairs-i.result in
    let P : Option Pair → Type 0 = λ o. Gives (conditions.all_at c.args.line o) c.all.result in
    subst P (sym (c.in-Some.ensures.value ∙ at_index pairs c.in-Some.i x c.in-Some.ensures.within (sym c.index-pairs-i.is))) c.all.ensures

pub all-returns-then-is_null_scalar : goal.all-returns-then-is_null_scalar
all-returns-then-is_null_scalar t c =
    let Whole : Read (List Condition) → Type 0 = λ r. Gives r (Ok c.make.result) in
    let null = sym (c.is_null_scalar.ensures ∙ ap (λ x. c.in-Scalar.plain && is_null_word x) c.bytes.ensures.value) ∙ c.if-is_null_scalar.true in
    subst Whole (sym (all_null c.args.node.now c.in-Scalar.text c.in-Scalar.plain c.in-Scalar.is null ∙ ap Ok (sym c.make.ensures))) refl

pub all-returns-else-is_null_scalar : goal.all-returns-else-is_null_scalar
all-returns-else-is_null_scalar t c =
    let one = conditions.condition false c.args.node.now in
    let Whole : Read (List Condition) → Type 0 = λ r. Gives r c.alone.result in
    let some = sym (c.is_null_scalar.ensures ∙ ap (λ x. c.in-Scalar.plain && is_null_word x) c.bytes.ensures.value) ∙ c.if-is_null_scalar.false in
    subst Whole (sym (all_scalar c.args.node.now c.in-Scalar.text c.in-Scalar.plain c.in-Scalar.is some)) (c.alone.ensures one c.one.ensures)

pub all-returns-in-List : goal.all-returns-in-List
all-returns-in-List t c =
    let Whole : Read (List Condition) → Type 0 = λ r. Gives r c.each_of.result in
    subst Whole (sym (all_list c.args.node.now c.in-List.items c.as_slice.result.now c.in-List.is c.as_slice.ensures)) c.each_of.ensures

pub all-returns-in-Map : goal.all-returns-in-Map
all-returns-in-Map t c =
    let one = conditions.condition false c.args.node.now in
    let Whole : Read (List Condition) → Type 0 = λ r. Gives r c.alone-in-Map.result in
    subst Whole (sym (all_map c.args.node.now c.in-Map._pairs c.in-Map.is)) (c.alone-in-Map.ensures one c.one-in-Map.ensures)

pub each_of-items-preserved : goal.each_of-items-preserved
each_of-items-preserved t c =
    let read = conditions.condition false in
    let old = c.items.invariant in
    let x = c.index-items-i.result in (
      keep old.0 (read x),
      c.keep-found.ensures old.0 (read x) old.1 c.one.ensures,
      sym (kept_more read old.0 c.args.items.now c.items.i x c.items-test.true (sym c.index-items-i.is)) ∙ old.2,
    )

pub named-returns : goal.named-returns
named-returns t c =
    let pairs = c.args.pairs.now in
    let inside = conditions.inside c.args.line pairs in
    let rule = conditions.rule c.args.kind c.args.line pairs inside in
    let P : List Row → Type 0 = λ rs. Gives (conditions.with_keys c.args.action rs pairs rule) c.with_keys.result in
    subst P c.kind_rows.ensures (c.with_keys.ensures rule c.rule-rule.ensures)

pub by_key-returns-in-ByAnd : goal.by_key-returns-in-ByAnd
by_key-returns-in-ByAnd t c =
    let pairs = c.args.pairs.now in
    let held = conditions.inside c.args.line pairs (row key.And) in
    let P : KindKey → Type 0 = λ k. Gives (conditions.by_key c.args.action c.args.line pairs (conditions.inside c.args.line pairs) (Some k)) c.with_keys.result in
    subst P (sym c.in-ByAnd.is) (c.with_keys.ensures (made made_of.And held) (c.made_and-held.ensures held c.inside.ensures))

pub rule-returns-in-And : goal.rule-returns-in-And
rule-returns-in-And t c =
    let pairs = c.args.pairs.now in
    let P : ConditionKind → Type 0 = λ k. Gives (conditions.rule k c.args.line pairs (conditions.inside c.args.line pairs)) c.made_and.result in
    subst P (sym c.in-And.is) (c.made_and.ensures (conditions.inside c.args.line pairs (row key.Conditions)) c.inside.ensures)

pub by_key-returns-in-ByOr : goal.by_key-returns-in-ByOr
by_key-returns-in-ByOr t c =
    let pairs = c.args.pairs.now in
    let held = conditions.inside c.args.line pairs (row key.Or) in
    let P : KindKey → Type 0 = λ k. Gives (conditions.by_key c.args.action c.args.line pairs (conditions.inside c.args.line pairs) (Some k)) c.with_keys-in-ByOr.result in
    subst P (sym c.in-ByOr.is) (c.with_keys-in-ByOr.ensures (made made_of.Or held) (c.made_or-held.ensures held c.inside-in-ByOr.ensures))

pub rule-returns-in-Or : goal.rule-returns-in-Or
rule-returns-in-Or t c =
    let pairs = c.args.pairs.now in
    let P : ConditionKind → Type 0 = λ k. Gives (conditions.rule k c.args.line pairs (conditions.inside c.args.line pairs)) c.made_or.result in
    subst P (sym c.in-Or.is) (c.made_or.ensures (conditions.inside c.args.line pairs (row key.Conditions)) c.inside-in-Or.ensures)

pub by_key-returns-in-ByNot : goal.by_key-returns-in-ByNot
by_key-returns-in-ByNot t c =
    let pairs = c.args.pairs.now in
    let held = conditions.inside c.args.line pairs (row key.Not) in
    let P : KindKey → Type 0 = λ k. Gives (conditions.by_key c.args.action c.args.line pairs (conditions.inside c.args.line pairs) (Some k)) c.with_keys-in-ByNot.result in
    subst P (sym c.in-ByNot.is) (c.with_keys-in-ByNot.ensures (made made_of.Not held) (c.made_not-held.ensures held c.inside-in-ByNot.ensures))

pub rule-returns-in-Not : goal.rule-returns-in-Not
rule-returns-in-Not t c =
    let pairs = c.args.pairs.now in
    let P : ConditionKind → Type 0 = λ k. Gives (conditions.rule k c.args.line pairs (conditions.inside c.args.line pairs)) c.made_not.result in
    subst P (sym c.in-Not.is) (c.made_not.ensures (conditions.inside c.args.line pairs (row key.Conditions)) c.inside-in-Not.ensures)
