use Rattle.std.proofs.Common.{◌∙◌, map, subst, sym}
use Rattle.std.specs.Prelude.{Some}
use Rattle.tpl_reads.specs.Finds.{Found}
use Rattle.tpl_reads.specs.Reads.{Written, all_of, expr_named, ids_in, known_of}
use Rattle.tpl_reads.proofs.FindLemmas.{along-none, finds-along, finds-none, goes-all, goes-false, goes-more, then-false, then-true}
use Rattle.ha_config.specs.declared.template.Expr.TheVariants.{outs-At, outs-Field, outs-Filter, outs-Function, outs-IsNone, outs-List, outs-Name, outs-Negate, outs-Not, outs-Pair, outs-Pick, outs-Plain}
use Rattle.tpl_reads.proofs.FormLemmas.{listed-list, named-at, named-filter, named-list, named-other-filter, named-pick, named-pick-else, named-plain, unlisted, unnamed}
use Rattle.tpl_reads.proofs.named.+named.Goals as goal

pub add_each_named-loop-i-init : goal.add_each_named-loop-i-init
add_each_named-loop-i-init t c = finds-none c.args.found.now

pub add_each_named-returns-in-Ok-false : goal.add_each_named-returns-in-Ok-false
add_each_named-returns-in-Ok-false t c = goes-false expr_named c.args.exprs.now c.loop-i.i c.index-exprs-i.result c.args.found.now c.loop-i.found c.add_named.new.found c.loop-i.invariant c.loop-i-test.true c.index-exprs-i.is c.in-Ok-false.field-0 c.add_named.result c.in-Ok-false.is c.add_named.ensures c.in-Ok-false.field-0-test

pub add_each_named-loop-i-preserved : goal.add_each_named-loop-i-preserved
add_each_named-loop-i-preserved t c = goes-more expr_named c.args.exprs.now c.loop-i.i c.index-exprs-i.result c.args.found.now c.loop-i.found c.add_named.new.found c.loop-i.invariant c.loop-i-test.true c.index-exprs-i.is c.in-Ok-true.field-0 c.add_named.result c.in-Ok-true.is c.add_named.ensures c.in-Ok-true.field-0-test

pub add_each_named-returns : goal.add_each_named-returns
add_each_named-returns t c = goes-all expr_named c.args.exprs.now c.loop-i.i c.args.found.now c.loop-i.found c.loop-i.invariant c.loop-i-test.false

pub add_listed-returns-in-List : goal.add_listed-returns-in-List
add_listed-returns-in-List t c = finds-along c.args.found.now c.add_each_named.new.found (all_of (map expr_named c.as_slice.result.now)) ((known_of c.args.expr.now).listed) c.add_each_named.result (listed-list c.in-List.is c.as_slice.ensures) c.add_each_named.ensures

pub add_listed-returns-in-Plain : goal.add_listed-returns-in-Plain
add_listed-returns-in-Plain t c = λ start h. unlisted c.in-Plain.is (simp outs-Plain)

pub add_listed-returns-in-Name : goal.add_listed-returns-in-Name
add_listed-returns-in-Name t c = λ start h. unlisted c.in-Name.is (simp outs-Name)

pub add_listed-returns-in-Field : goal.add_listed-returns-in-Field
add_listed-returns-in-Field t c = λ start h. unlisted c.in-Field.is (simp outs-Field)

pub add_listed-returns-in-At : goal.add_listed-returns-in-At
add_listed-returns-in-At t c = λ start h. unlisted c.in-At.is (simp outs-At)

pub add_listed-returns-in-Filter : goal.add_listed-returns-in-Filter
add_listed-returns-in-Filter t c = λ start h. unlisted c.in-Filter.is (simp outs-Filter)

pub add_listed-returns-in-Function : goal.add_listed-returns-in-Function
add_listed-returns-in-Function t c = λ start h. unlisted c.in-Function.is (simp outs-Function)

pub add_listed-returns-in-Negate : goal.add_listed-returns-in-Negate
add_listed-returns-in-Negate t c = λ start h. unlisted c.in-Negate.is (simp outs-Negate)

pub add_listed-returns-in-Not : goal.add_listed-returns-in-Not
add_listed-returns-in-Not t c = λ start h. unlisted c.in-Not.is (simp outs-Not)

pub add_listed-returns-in-IsNone : goal.add_listed-returns-in-IsNone
add_listed-returns-in-IsNone t c = λ start h. unlisted c.in-IsNone.is (simp outs-IsNone)

pub add_listed-returns-in-Pair : goal.add_listed-returns-in-Pair
add_listed-returns-in-Pair t c = λ start h. unlisted c.in-Pair.is (simp outs-Pair)

pub add_listed-returns-in-Pick : goal.add_listed-returns-in-Pick
add_listed-returns-in-Pick t c = λ start h. unlisted c.in-Pick.is (simp outs-Pick)

pub add_named-returns-in-Plain : goal.add_named-returns-in-Plain
add_named-returns-in-Plain t c = finds-along c.args.found.now c.add_value.new.found (Some (ids_in c.in-Plain.value)) (expr_named c.args.expr.now) c.add_value.result (named-plain c.in-Plain.is) c.add_value.ensures

pub add_named-returns-in-List : goal.add_named-returns-in-List
add_named-returns-in-List t c = along-none c.args.found.now (expr_named c.args.expr.now) (named-list c.in-List.is (simp outs-List))

pub add_named-returns-in-Name : goal.add_named-returns-in-Name
add_named-returns-in-Name t c = λ start h. unnamed c.in-Name.is (simp outs-Name)

pub add_named-returns-in-Field : goal.add_named-returns-in-Field
add_named-returns-in-Field t c = λ start h. unnamed c.in-Field.is (simp outs-Field)

pub add_named-returns-in-Function : goal.add_named-returns-in-Function
add_named-returns-in-Function t c = λ start h. unnamed c.in-Function.is (simp outs-Function)

pub add_named-returns-in-Negate : goal.add_named-returns-in-Negate
add_named-returns-in-Negate t c = λ start h. unnamed c.in-Negate.is (simp outs-Negate)

pub add_named-returns-in-Not : goal.add_named-returns-in-Not
add_named-returns-in-Not t c = λ start h. unnamed c.in-Not.is (simp outs-Not)

pub add_named-returns-in-IsNone : goal.add_named-returns-in-IsNone
add_named-returns-in-IsNone t c = λ start h. unnamed c.in-IsNone.is (simp outs-IsNone)

pub add_named-returns-in-Pair : goal.add_named-returns-in-Pair
add_named-returns-in-Pair t c = λ start h. unnamed c.in-Pair.is (simp outs-Pair)

pub add_named-returns-in-At : goal.add_named-returns-in-At
add_named-returns-in-At t c = finds-along c.args.found.now c.add_listed.new.found ((known_of c.get.result.now).listed) (expr_named c.args.expr.now) c.add_listed.result (named-at c.in-At.base c.get.result.now c.in-At.is (simp outs-At) c.get.ensures) c.add_listed.ensures

pub add_named-returns-then-takes_item : goal.add_named-returns-then-takes_item
add_named-returns-then-takes_item t c = finds-along c.args.found.now c.add_listed-then-takes_item.new.found ((known_of c.get-then-takes_item.result.now).listed) (expr_named c.args.expr.now) c.add_listed-then-takes_item.result (named-filter c.in-Filter.name c.in-Filter.base c.get-then-takes_item.result.now c.in-Filter.is (simp outs-Filter) c.get-then-takes_item.ensures (sym c.takes_item.ensures ∙ c.if-takes_item.true)) c.add_listed-then-takes_item.ensures

pub add_named-returns-else-takes_item : goal.add_named-returns-else-takes_item
add_named-returns-else-takes_item t c = λ start h. named-other-filter c.in-Filter.name c.in-Filter.base c.in-Filter.is (simp outs-Filter) (sym c.takes_item.ensures ∙ c.if-takes_item.false)

pub add_named-returns-in-Some : goal.add_named-returns-in-Some
add_named-returns-in-Some t c = λ start h.
    subst (λ (w : Written). Found start c.add_named_then.new.found w c.add_named_then.result) (named-pick-else c.in-Pick.yes c.in-Pick.no c.get-in-Pick.result.now c.in-Some.no c.get-in-Some.result.now c.in-Pick.is (simp outs-Pick) c.get-in-Pick.ensures c.in-Some.is c.get-in-Some.ensures)
    (c.add_named_then.ensures start (expr_named c.get-in-Pick.result.now) (c.add_named-first.ensures start h))

pub add_named-returns-in-None : goal.add_named-returns-in-None
add_named-returns-in-None t c = finds-along c.args.found.now c.add_named-first.new.found (expr_named c.get-in-Pick.result.now) (expr_named c.args.expr.now) c.add_named-first.result (named-pick c.in-Pick.yes c.in-Pick.no c.get-in-Pick.result.now c.in-Pick.is (simp outs-Pick) c.get-in-Pick.ensures c.in-None.is) c.add_named-first.ensures

pub add_named_then-returns-in-Ok-true : goal.add_named_then-returns-in-Ok-true
add_named_then-returns-in-Ok-true t c = λ start given h.
    then-true start c.args.found.now c.add_named.new.found given (expr_named c.args.expr.now) c.args.before c.add_named.result c.in-Ok-true.field-0 c.in-Ok-true.is c.in-Ok-true.field-0-test h c.add_named.ensures

pub add_named_then-returns-in-Ok-false : goal.add_named_then-returns-in-Ok-false
add_named_then-returns-in-Ok-false t c = λ start given h.
    then-false start c.args.found.now c.args.found.now given (expr_named c.args.expr.now) c.args.before c.in-Ok-false.field-0 c.in-Ok-false.is c.in-Ok-false.field-0-test h
