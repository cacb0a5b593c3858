use Rattle.std.proofs.Common.{◌∙◌, sym, subst}
use Rattle.std.specs.Prelude.{Option, Some}
use Rattle.ha_value.specs.declared.value.Value.{Value}
use Rattle.ha_sight.specs.Parts.{part_value}
use Rattle.ha_sight.specs.Templates.{value_of}
use Rattle.tpl_eval.specs.Held.{held_value, Leads, Yields}
use Rattle.tpl_eval.specs.Scope.{variables}
use Rattle.tpl_eval.proofs.ListLemmas.{continues-more, continues-fault, values}
use Rattle.tpl_eval.proofs.ItemLemmas.{items-fault, items-more}
use Rattle.tpl_eval.proofs.StepLemmas.{value-field, value-none, value-part, value-filter, value-pair, pick-first, pick-second, pick-none, list-fault}
use Rattle.tpl_eval.proofs.value.+value.Goals as goal

pub field_part-returns : goal.field_part-returns
field_part-returns t c = λ sight h.
    let env = variables c.args.scope.now in
    let e = value-field sight env c.args.expr.now c.in-Field.base c.get.result.now c.in-Field.name c.in-Field.is c.get.ensures in
    subst (λ (o : Option Value). Leads c.field_in.result o) (sym e) (c.field_in.ensures (value_of sight c.get.result.now env) (c.part_of.ensures sight h))

pub other_value-returns-in-IsNone : goal.other_value-returns-in-IsNone
other_value-returns-in-IsNone t c = λ sight h.
    let env = variables c.args.scope.now in
    let e = value-none sight env c.args.expr.now c.in-IsNone.base c.get-in-IsNone.result.now c.in-IsNone.holds c.in-IsNone.is c.get-in-IsNone.ensures in
    subst (λ (o : Option Value). Yields c.none_tested.result o) (sym e) (c.none_tested.ensures (value_of sight c.get-in-IsNone.result.now env) (c.value_of-in-IsNone.ensures sight h))

pub at_part-returns-in-Ok : goal.at_part-returns-in-Ok
at_part-returns-in-Ok t c = λ sight h.
    let env = variables c.args.scope.now in
    let known = rw c.in-Ok.is at (c.part_of.ensures sight h) in
    let e = value-part sight env c.args.expr.now c.in-At.base c.get.result.now c.in-At.index c.get-in-Ok.result.now (part_value c.in-Ok.part) c.in-At.is c.get.ensures c.get-in-Ok.ensures known in
    subst (λ (o : Option Value). Leads c.part_in.result o) (sym e) (c.part_in.ensures (value_of sight c.get-in-Ok.result.now env) (c.value_of.ensures sight h))

pub filter_value-returns-in-Ok : goal.filter_value-returns-in-Ok
filter_value-returns-in-Ok t c = λ sight h.
    let env = variables c.args.scope.now in
    let known = rw c.in-Ok.is at (c.value_of.ensures sight h) in
    let e = value-filter sight env c.args.expr.now c.in-Filter.name c.in-Filter.base c.get.result.now c.in-Filter.args c.as_slice.result.now (held_value c.in-Ok.held) c.in-Filter.is c.get.ensures c.as_slice.ensures known in
    subst (λ (o : Option Value). Yields c.filter_with.result o) (sym e) (c.filter_with.ensures (values sight env c.as_slice.result.now) (c.values_of.ensures sight h))

pub pair_value-returns : goal.pair_value-returns
pair_value-returns t c = λ sight h.
    let env = variables c.args.scope.now in
    let e = value-pair sight env c.args.expr.now c.in-Pair.op c.in-Pair.left c.in-Pair.right c.get-2.result.now c.get.result.now c.in-Pair.is c.get-2.ensures c.get.ensures in
    subst (λ (o : Option Value). Yields c.pair_with.result o) (sym e) (c.pair_with.ensures sight (value_of sight c.get-2.result.now env) h (c.value_of.ensures sight h))

pub pair_with-returns-in-Decided : goal.pair_with-returns-in-Decided
pair_with-returns-in-Decided t c = λ sight given h y. c.in-Decided.ensures sight given y (value_of sight c.args.right.now (variables c.args.scope.now))

pub pair_with-returns-in-Passed : goal.pair_with-returns-in-Passed
pair_with-returns-in-Passed t c = λ sight given h y.
    subst (λ (o : Option Value). Yields c.value_of.result o) (sym (c.in-Passed.ensures sight given y (value_of sight c.args.right.now (variables c.args.scope.now)))) (c.value_of.ensures sight h)

pub pair_with-returns-in-Taken : goal.pair_with-returns-in-Taken
pair_with-returns-in-Taken t c = λ sight given h y.
    let right = value_of sight c.args.right.now (variables c.args.scope.now) in
    subst (λ (o : Option Value). Yields c.operate_on.result o) (sym (c.in-Taken.ensures sight given y right)) (c.operate_on.ensures right (c.value_of-in-Taken.ensures sight h))

pub picked-returns-in-Ok-true : goal.picked-returns-in-Ok-true
picked-returns-in-Ok-true t c = λ sight h.
    let env = variables c.args.scope.now in
    let known = rw c.in-Ok-true.is at (c.truth_of.ensures (value_of sight c.get.result.now env) (c.value_of.ensures sight h)) in
    let e = pick-first sight env c.args.expr.now c.in-Pick.test c.in-Pick.yes c.get.result.now c.in-Pick.no c.in-Pick.is c.get.ensures c.in-Ok-true.field-0 known c.get-in-Ok-true.result.now c.in-Ok-true.field-0-test c.get-in-Ok-true.ensures in
    subst (λ (o : Option Value). Yields c.value_of-in-Ok-true.result o) (sym e) (c.value_of-in-Ok-true.ensures sight h)

pub picked-returns-in-Some : goal.picked-returns-in-Some
picked-returns-in-Some t c = λ sight h.
    let env = variables c.args.scope.now in
    let known = rw c.in-Ok-false.is at (c.truth_of.ensures (value_of sight c.get.result.now env) (c.value_of.ensures sight h)) in
    let e = pick-second sight env c.args.expr.now c.in-Pick.test c.in-Pick.yes c.get.result.now c.in-Pick.no c.in-Pick.is c.get.ensures c.in-Ok-false.field-0 known c.in-Some.no c.get-in-Some.result.now c.in-Ok-false.field-0-test c.in-Some.is c.get-in-Some.ensures in
    subst (λ (o : Option Value). Yields c.value_of-in-Some.result o) (sym e) (c.value_of-in-Some.ensures sight h)

pub picked-returns-in-None : goal.picked-returns-in-None
picked-returns-in-None t c = λ sight h.
    let env = variables c.args.scope.now in
    let known = rw c.in-Ok-false.is at (c.truth_of.ensures (value_of sight c.get.result.now env) (c.value_of.ensures sight h)) in
    pick-none sight env c.args.expr.now c.in-Pick.test c.in-Pick.yes c.get.result.now c.in-Pick.no c.in-Pick.is c.get.ensures c.in-Ok-false.field-0 known c.in-Ok-false.field-0-test c.in-None.is
    ∙ (λ k. Some (sym c.empty_text.ensures k))

pub values_of-returns-in-Err : goal.values_of-returns-in-Err
values_of-returns-in-Err t c = λ sight h.
    let env = variables c.args.scope.now in
    let x = c.index-exprs-i.result in
    let put = rw c.in-Err.is at (c.add.ensures (value_of sight x env) (c.value_of.ensures sight h)) in
    list-fault c.in-Err.fault c.loop-i.all c.add.new.all (value_of sight x env) (values sight env c.args.exprs.now) put
    (continues-fault sight env c.args.exprs.now c.loop-i.i c.loop-i.all (c.loop-i.invariant sight h) x c.loop-i-test.true c.index-exprs-i.is)

pub values_of-loop-i-preserved : goal.values_of-loop-i-preserved
values_of-loop-i-preserved t c = λ sight h.
    let env = variables c.args.scope.now in
    let x = c.index-exprs-i.result in
    let put = rw c.in-Ok.is at (c.add.ensures (value_of sight x env) (c.value_of.ensures sight h)) in
    continues-more sight env c.args.exprs.now c.loop-i.i c.loop-i.all (c.loop-i.invariant sight h) x c.add.new.all c.loop-i-test.true c.index-exprs-i.is put

pub items_of-returns-in-Err : goal.items_of-returns-in-Err
items_of-returns-in-Err t c = λ sight h.
    let env = variables c.args.scope.now in
    let x = c.index-exprs-i.result in
    let put = rw c.in-Err.is at (c.add_within.ensures (value_of sight x env) (c.value_of.ensures sight h)) in
    items-fault sight env c.args.exprs.now c.loop-i.i c.loop-i.left c.loop-i.all (c.loop-i.invariant sight h) x c.add_within.new.all c.loop-i-test.true c.index-exprs-i.is c.in-Err.fault put

pub items_of-loop-i-preserved : goal.items_of-loop-i-preserved
items_of-loop-i-preserved t c = λ sight h.
    let env = variables c.args.scope.now in
    let x = c.index-exprs-i.result in
    let put = rw c.in-Ok.is at (c.add_within.ensures (value_of sight x env) (c.value_of.ensures sight h)) in
    items-more sight env c.args.exprs.now c.loop-i.i c.loop-i.left c.loop-i.all (c.loop-i.invariant sight h) x c.add_within.new.all c.loop-i-test.true c.index-exprs-i.is c.in-Ok.rest put
