use Rattle.std.proofs.Common.{map, subst}
use Rattle.tpl_reads.specs.Finds.{Found}
use Rattle.tpl_reads.specs.Reads.{Written, all_of, both, expr_reads, known_of, looked_up}
use Rattle.tpl_reads.proofs.FindLemmas.{along-none, finds-along, finds-none, goes-all, goes-false, goes-more, then-false, then-true}
use Rattle.tpl_reads.proofs.FormLemmas.{reads-at, reads-field, reads-filter, reads-function, reads-list, reads-name, reads-negate, reads-none, reads-not, reads-pair, reads-pick, reads-pick-else, reads-plain}
use Rattle.tpl_reads.proofs.exprs.+exprs.Goals as goal

pub add_expr-returns-in-Plain : goal.add_expr-returns-in-Plain
add_expr-returns-in-Plain t c = along-none c.args.found.now (expr_reads c.args.expr.now) (reads-plain c.in-Plain.is)

pub add_expr-returns-in-Name : goal.add_expr-returns-in-Name
add_expr-returns-in-Name t c = along-none c.args.found.now (expr_reads c.args.expr.now) (reads-name c.in-Name.is)

pub add_expr-returns-in-List : goal.add_expr-returns-in-List
add_expr-returns-in-List t c = finds-along c.args.found.now c.add_exprs.new.found (all_of (map expr_reads c.as_slice.result.now)) (expr_reads c.args.expr.now) c.add_exprs.result (reads-list c.in-List.is c.as_slice.ensures) c.add_exprs.ensures

pub add_expr-returns-in-Field : goal.add_expr-returns-in-Field
add_expr-returns-in-Field t c = finds-along c.args.found.now c.add_expr.new.found (expr_reads c.get.result.now) (expr_reads c.args.expr.now) c.add_expr.result (reads-field c.in-Field.is c.get.ensures) c.add_expr.ensures

pub add_expr-returns-in-Negate : goal.add_expr-returns-in-Negate
add_expr-returns-in-Negate t c = finds-along c.args.found.now c.add_expr-in-Negate.new.found (expr_reads c.get-in-Negate.result.now) (expr_reads c.args.expr.now) c.add_expr-in-Negate.result (reads-negate c.in-Negate.is c.get-in-Negate.ensures) c.add_expr-in-Negate.ensures

pub add_expr-returns-in-Not : goal.add_expr-returns-in-Not
add_expr-returns-in-Not t c = finds-along c.args.found.now c.add_expr-in-Not.new.found (expr_reads c.get-in-Not.result.now) (expr_reads c.args.expr.now) c.add_expr-in-Not.result (reads-not c.in-Not.is c.get-in-Not.ensures) c.add_expr-in-Not.ensures

pub add_expr-returns-in-IsNone : goal.add_expr-returns-in-IsNone
add_expr-returns-in-IsNone t c = finds-along c.args.found.now c.add_expr-in-IsNone.new.found (expr_reads c.get-in-IsNone.result.now) (expr_reads c.args.expr.now) c.add_expr-in-IsNone.result (reads-none c.in-IsNone.is c.get-in-IsNone.ensures) c.add_expr-in-IsNone.ensures

pub add_expr-returns-in-At : goal.add_expr-returns-in-At
add_expr-returns-in-At t c = λ start h.
    subst (λ (w : Written). Found start c.add_expr_then.new.found w c.add_expr_then.result) (reads-at c.in-At.is c.get-in-At.ensures c.get-in-At-2.ensures)
    (c.add_expr_then.ensures start (expr_reads c.get-in-At.result.now) (c.add_expr-first.ensures start h))

pub add_expr-returns-in-Filter : goal.add_expr-returns-in-Filter
add_expr-returns-in-Filter t c = λ start h.
    subst (λ (w : Written). Found start c.add_exprs_then.new.found w c.add_exprs_then.result) (reads-filter c.in-Filter.is c.get-in-Filter.ensures c.as_slice-in-Filter.ensures)
    (c.add_exprs_then.ensures start (expr_reads c.get-in-Filter.result.now) (c.add_expr-first-in-Filter.ensures start h))

pub add_expr-returns-in-Function : goal.add_expr-returns-in-Function
add_expr-returns-in-Function t c = λ start h.
    subst (λ (w : Written). Found start c.add_exprs_then-in-Function.new.found w c.add_exprs_then-in-Function.result) (reads-function c.in-Function.is c.as_slice-in-Function.ensures c.as_slice-in-Function-2.ensures)
    (c.add_exprs_then-in-Function.ensures start (looked_up c.in-Function.name (map known_of c.as_slice-in-Function.result.now)) (c.add_looked_up-first.ensures start h))

pub add_expr-returns-in-Pair : goal.add_expr-returns-in-Pair
add_expr-returns-in-Pair t c = λ start h.
    subst (λ (w : Written). Found start c.add_expr_then-in-Pair.new.found w c.add_expr_then-in-Pair.result) (reads-pair c.in-Pair.is c.get-in-Pair.ensures c.get-in-Pair-2.ensures)
    (c.add_expr_then-in-Pair.ensures start (expr_reads c.get-in-Pair.result.now) (c.add_expr-first-in-Pair.ensures start h))

pub add_expr-returns-in-Some : goal.add_expr-returns-in-Some
add_expr-returns-in-Some t c = λ start h.
    subst (λ (w : Written). Found start c.add_expr_then-in-Some.new.found w c.add_expr_then-in-Some.result) (reads-pick-else c.in-Pick.is c.get-in-Pick.ensures c.get-in-Pick-2.ensures c.in-Some.is c.get-in-Some.ensures)
    (c.add_expr_then-in-Some.ensures start (both (expr_reads c.get-in-Pick.result.now) (expr_reads c.get-in-Pick-2.result.now)) (c.add_expr_then-second.ensures start (expr_reads c.get-in-Pick.result.now) (c.add_expr-first-in-Pick.ensures start h)))

pub add_expr-returns-in-None : goal.add_expr-returns-in-None
add_expr-returns-in-None t c = λ start h.
    subst (λ (w : Written). Found start c.add_expr_then-second.new.found w c.add_expr_then-second.result) (reads-pick c.in-Pick.is c.get-in-Pick.ensures c.get-in-Pick-2.ensures c.in-None.is)
    (c.add_expr_then-second.ensures start (expr_reads c.get-in-Pick.result.now) (c.add_expr-first-in-Pick.ensures start h))

pub add_expr_then-returns-in-Ok-true : goal.add_expr_then-returns-in-Ok-true
add_expr_then-returns-in-Ok-true t c = λ start given h.
    then-true start c.args.found.now c.add_expr.new.found given (expr_reads c.args.expr.now) c.args.before c.add_expr.result c.in-Ok-true.field-0 c.in-Ok-true.is c.in-Ok-true.field-0-test h c.add_expr.ensures

pub add_expr_then-returns-in-Ok-false : goal.add_expr_then-returns-in-Ok-false
add_expr_then-returns-in-Ok-false t c = λ start given h.
    then-false start c.args.found.now c.args.found.now given (expr_reads c.args.expr.now) c.args.before c.in-Ok-false.field-0 c.in-Ok-false.is c.in-Ok-false.field-0-test h

pub add_exprs-loop-i-init : goal.add_exprs-loop-i-init
add_exprs-loop-i-init t c = finds-none c.args.found.now

pub add_exprs-returns-in-Ok-false : goal.add_exprs-returns-in-Ok-false
add_exprs-returns-in-Ok-false t c = goes-false expr_reads c.args.exprs.now c.loop-i.i c.index-exprs-i.result c.args.found.now c.loop-i.found c.add_expr.new.found c.loop-i.invariant c.loop-i-test.true c.index-exprs-i.is c.in-Ok-false.field-0 c.add_expr.result c.in-Ok-false.is c.add_expr.ensures c.in-Ok-false.field-0-test

pub add_exprs-loop-i-preserved : goal.add_exprs-loop-i-preserved
add_exprs-loop-i-preserved t c = goes-more expr_reads c.args.exprs.now c.loop-i.i c.index-exprs-i.result c.args.found.now c.loop-i.found c.add_expr.new.found c.loop-i.invariant c.loop-i-test.true c.index-exprs-i.is c.in-Ok-true.field-0 c.add_expr.result c.in-Ok-true.is c.add_expr.ensures c.in-Ok-true.field-0-test

pub add_exprs-returns : goal.add_exprs-returns
add_exprs-returns t c = goes-all expr_reads c.args.exprs.now c.loop-i.i c.args.found.now c.loop-i.found c.loop-i.invariant c.loop-i-test.false

pub add_exprs_then-returns-in-Ok-true : goal.add_exprs_then-returns-in-Ok-true
add_exprs_then-returns-in-Ok-true t c = λ start given h.
    then-true start c.args.found.now c.add_exprs.new.found given (all_of (map expr_reads c.args.exprs.now)) c.args.before c.add_exprs.result c.in-Ok-true.field-0 c.in-Ok-true.is c.in-Ok-true.field-0-test h c.add_exprs.ensures

pub add_exprs_then-returns-in-Ok-false : goal.add_exprs_then-returns-in-Ok-false
add_exprs_then-returns-in-Ok-false t c = λ start given h.
    then-false start c.args.found.now c.args.found.now given (all_of (map expr_reads c.args.exprs.now)) c.args.before c.in-Ok-false.field-0 c.in-Ok-false.is c.in-Ok-false.field-0-test h
