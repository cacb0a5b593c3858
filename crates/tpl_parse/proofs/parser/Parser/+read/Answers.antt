use Rattle.std.proofs.Common.{◌≡◌, sym, ap, subst, ◌∙◌, ℕ, List}
use Rattle.std.specs.Prelude.{nat_le, ◌-◌}
use Rattle.std.proofs.lemmas.Result.{err_from_is_err_and}
use Rattle.ha_config.specs.declared.template.Expr.{Expr}
use Rattle.ha_config.specs.declared.template.Op.{Op}
use Rattle.reading.specs.declared.fault.Bad.{Bad}
use Rattle.reading.specs.Answer.{Answer, Gives}
use Rattle.tpl_parse.specs.declared.token.Token.{Token}
use Rattle.tpl_parse.specs.declared.expression.Part.{Part}
use Rattle.tpl_parse.specs.Names.{takes_behind}
use Rattle.tpl_parse.specs.Reading.{arguments, chain, expression, filtered, opened, operand, operator, operator_of, operators, behind_operator, reached}
use Rattle.tpl_parse.proofs.Shorter.{expression_keeps, opened_opens}
use Rattle.tpl_parse.proofs.Loops.{closed_call, in_brackets, index_shorter, item_shorter, items_begin, key_shorter, last_filter, last_item, last_operand, last_part, negation_closed, negation_without, next_filter, next_index, next_item, next_key, next_operand, no_arguments, no_comma, no_filter, no_filter_arguments, no_index, no_item, no_key, no_operand, not_a_call, operand_shorter, filter_shorter, with_arguments}
use Rattle.tpl_parse.proofs.parser.Parser.+read.Goals as goal
use Rattle.tpl_parse.proofs.parser.Parser.+read.Goals.{called-then-depth-eq0-via-then-depth-eq0, called-then-depth-eq0-via-else-depth-eq0+then-not-take, negation-then-depth-eq0-via-then-depth-eq0, negation-then-depth-eq0-via-else-depth-eq0+then-not-take}

-- ---- operands with operators between them

pub chain-returns-in_err-right : goal.chain-returns-in_err-right
chain-returns-in_err-right t c =
    let p = err_from_is_err_and c.from_residual-in_err-right.result c.from_residual-in_err-right.ensures.1 in
    let rows : List (Token × Op) = operators c.args.level in
    let found = subst (λ (rows : List (Token × Op)). c.operator.result ≡ operator_of (operator rows c.operators.self)) c.operators-in-operators.ensures c.operator.ensures.op in
    let behind = subst (λ (rows : List (Token × Op)). c.operator.new.self ≡ behind_operator (operator rows c.operators.self) c.operators.self) c.operators-in-operators.ensures c.operator.ensures.rest in
    rw (p.1, p.2) (no_operand rows (operand c.args.level (opened c.args.depth)) c.operators.part c.operators.self (chain rows (operand c.args.level (opened c.args.depth)) c.args.self.now) c.operators.invariant
    c.operator.result c.operator.new.self found behind c.in-Some.op c.in-Some.is c.in_err-right.field-0.0 c.operand-in-Some.new.self c.in_err-right.ensures)

pub chain-operators-smaller : goal.chain-operators-smaller
chain-operators-smaller t c =
    let found = subst (λ (rows : List (Token × Op)). c.operator.result ≡ operator_of (operator rows c.operators.self)) c.operators-in-operators.ensures c.operator.ensures.op in
    let behind = subst (λ (rows : List (Token × Op)). c.operator.new.self ≡ behind_operator (operator rows c.operators.self) c.operators.self) c.operators-in-operators.ensures c.operator.ensures.rest in
    operand_shorter c.args.level c.args.depth c.operators.self c.operator.new.self c.operator.result found behind c.in-Some.op c.in-Some.is c.in_ok-right.right c.operand-in-Some.new.self c.in_ok-right.ensures

pub chain-operators-preserved : goal.chain-operators-preserved
chain-operators-preserved t c =
    let rows : List (Token × Op) = operators c.args.level in
    let found = subst (λ (rows : List (Token × Op)). c.operator.result ≡ operator_of (operator rows c.operators.self)) c.operators-in-operators.ensures c.operator.ensures.op in
    let behind = subst (λ (rows : List (Token × Op)). c.operator.new.self ≡ behind_operator (operator rows c.operators.self) c.operators.self) c.operators-in-operators.ensures c.operator.ensures.rest in
    next_operand rows (operand c.args.level (opened c.args.depth)) c.operators.part c.operators.self (chain rows (operand c.args.level (opened c.args.depth)) c.args.self.now) c.operators.invariant
    c.operator.result c.operator.new.self found behind c.in-Some.op c.in-Some.is c.in_ok-right.right c.operand-in-Some.new.self c.in_ok-right.ensures (chain-operators-smaller t c)
    c.in_ok-pair.field-0 c.in_ok-pair.ensures c.ending-part.result c.ending-part.ensures

pub chain-returns : goal.chain-returns
chain-returns t c =
    let rows : List (Token × Op) = operators c.args.level in
    let found = subst (λ (rows : List (Token × Op)). c.operator.result ≡ operator_of (operator rows c.operators.self)) c.operators-in-operators.ensures c.operator.ensures.op in
    let behind = subst (λ (rows : List (Token × Op)). c.operator.new.self ≡ behind_operator (operator rows c.operators.self) c.operators.self) c.operators-in-operators.ensures c.operator.ensures.rest in
    last_operand rows (operand c.args.level (opened c.args.depth)) c.operators.part c.operators.self (chain rows (operand c.args.level (opened c.args.depth)) c.args.self.now) c.operators.invariant
    c.operator.result c.operator.new.self found behind c.in_default.is

-- ---- filters

pub filtered-returns-in_err-filter : goal.filtered-returns-in_err-filter
filtered-returns-in_err-filter t c =
    let p = err_from_is_err_and c.from_residual-in_err-filter.result c.from_residual-in_err-filter.ensures.1 in
    rw (p.1, p.2) (no_filter (opened c.args.depth) c.filters.base c.filters.self (filtered (opened c.args.depth) c.args.self.now) c.filters.invariant
    c.take.result c.take.new.self c.take.ensures.found c.take.ensures.rest c.filters-test.true c.may_open.result c.may_open.ensures c.in_err-filter.field-0.0 c.filter_name.new.self c.in_err-filter.ensures)

pub filtered-returns-in_err-args : goal.filtered-returns-in_err-args
filtered-returns-in_err-args t c =
    let p = err_from_is_err_and c.from_residual-in_err-args.result c.from_residual-in_err-args.ensures.1 in
    rw (p.1, p.2) (no_filter_arguments (opened c.args.depth) c.filters.base c.filters.self (filtered (opened c.args.depth) c.args.self.now) c.filters.invariant
    c.take.result c.take.new.self c.take.ensures.found c.take.ensures.rest c.filters-test.true c.may_open.result c.may_open.ensures c.in_ok-filter.filter c.filter_name.new.self c.in_ok-filter.ensures c.counts.result c.counts.ensures
    c.in_err-args.field-0.0 c.filter_arguments.new.self c.in_err-args.ensures)

pub filtered-filters-smaller : goal.filtered-filters-smaller
filtered-filters-smaller t c =
    filter_shorter (opened c.args.depth) c.filters.base c.filters.self (filtered (opened c.args.depth) c.args.self.now) c.filters.invariant
    c.take.result c.take.new.self c.take.ensures.found c.take.ensures.rest c.filters-test.true c.may_open.result c.may_open.ensures c.in_ok-filter.filter c.filter_name.new.self c.in_ok-filter.ensures c.counts.result c.counts.ensures
    c.in_ok-args.args c.filter_arguments.new.self c.in_ok-args.ensures (opened_opens c.args.depth)

pub filtered-filters-preserved : goal.filtered-filters-preserved
filtered-filters-preserved t c =
    next_filter (opened c.args.depth) c.filters.base c.filters.self (filtered (opened c.args.depth) c.args.self.now) c.filters.invariant
    c.take.result c.take.new.self c.take.ensures.found c.take.ensures.rest c.filters-test.true c.may_open.result c.may_open.ensures c.in_ok-filter.filter c.filter_name.new.self c.in_ok-filter.ensures c.counts.result c.counts.ensures
    c.in_ok-args.args c.filter_arguments.new.self c.in_ok-args.ensures (opened_opens c.args.depth) c.in_ok-base-2.base c.number.result c.number.ensures c.in_ok-base-2.ensures

pub filtered-returns : goal.filtered-returns
filtered-returns t c =
    last_filter (opened c.args.depth) c.filters.base c.filters.self (filtered (opened c.args.depth) c.args.self.now) c.filters.invariant
    c.take.result c.take.new.self c.take.ensures.found c.take.ensures.rest c.filters-test.false

pub filter_arguments-returns-then-take_allowed : goal.filter_arguments-returns-then-take_allowed
filter_arguments-returns-then-take_allowed t c =
    let same = with_arguments (opened c.args.depth) c.args.counts c.may_have_arguments.result c.args.self.now c.take_allowed.new.self c.take_allowed.result c.may_have_arguments.ensures c.take_allowed.ensures.found c.take_allowed.ensures.rest c.if-take_allowed.true in
    subst (λ (a : Answer ℕ (Bad (Unit {0})) (List Expr)). Gives a c.arguments.result c.arguments.new.self) (sym same) c.arguments.ensures

-- ---- keys and places

pub reached-returns-in_err-name : goal.reached-returns-in_err-name
reached-returns-in_err-name t c =
    let p = err_from_is_err_and c.from_residual-in_err-name.result c.from_residual-in_err-name.ensures.1 in
    rw (p.1, p.2) (no_key c.args.depth c.parts.base c.parts.self (reached (opened c.args.depth) c.args.self.now) c.parts.invariant
    c.take.result c.take.new.self c.take.ensures.found c.take.ensures.rest c.if-take.true c.in_err-name.field-0.0 c.name.new.self c.in_err-name.ensures)

pub reached-parts-smaller-then-take : goal.reached-parts-smaller-then-take
reached-parts-smaller-then-take t c =
    key_shorter c.args.depth c.parts.base c.parts.self (reached (opened c.args.depth) c.args.self.now) c.parts.invariant
    c.take.result c.take.new.self c.take.ensures.found c.take.ensures.rest c.if-take.true c.in_ok-name.name c.name.new.self c.in_ok-name.ensures

pub reached-parts-preserved-then-take : goal.reached-parts-preserved-then-take
reached-parts-preserved-then-take t c =
    next_key c.args.depth c.parts.base c.parts.self (reached (opened c.args.depth) c.args.self.now) c.parts.invariant
    c.take.result c.take.new.self c.take.ensures.found c.take.ensures.rest c.if-take.true c.in_ok-name.name c.name.new.self c.in_ok-name.ensures c.in_ok-base-2.base c.in_ok-base-2.ensures

pub reached-returns-in_err-index : goal.reached-returns-in_err-index
reached-returns-in_err-index t c =
    let p = err_from_is_err_and c.from_residual-in_err-index.result c.from_residual-in_err-index.ensures.1 in
    rw (p.1, p.2) (no_index c.args.depth c.parts.base c.parts.self (reached (opened c.args.depth) c.args.self.now) c.parts.invariant
    c.take.result c.take.new.self c.take.ensures.found c.take.ensures.rest c.if-take.false c.take_allowed.result c.take_allowed.new.self c.take_allowed.ensures.found c.take_allowed.ensures.rest c.if-take_allowed.true
    c.in_err-index.field-0.0 c.enclosed.new.self c.in_err-index.ensures)

pub reached-parts-smaller : goal.reached-parts-smaller
reached-parts-smaller t c =
    index_shorter c.args.depth c.parts.base c.parts.self (reached (opened c.args.depth) c.args.self.now) c.parts.invariant
    c.take.result c.take.new.self c.take.ensures.found c.take.ensures.rest c.if-take.false c.take_allowed.result c.take_allowed.new.self c.take_allowed.ensures.found c.take_allowed.ensures.rest c.if-take_allowed.true
    c.in_ok-index.index c.enclosed.new.self c.in_ok-index.ensures

pub reached-parts-preserved : goal.reached-parts-preserved
reached-parts-preserved t c =
    next_index c.args.depth c.parts.base c.parts.self (reached (opened c.args.depth) c.args.self.now) c.parts.invariant
    c.take.result c.take.new.self c.take.ensures.found c.take.ensures.rest c.if-take.false c.take_allowed.result c.take_allowed.new.self c.take_allowed.ensures.found c.take_allowed.ensures.rest c.if-take_allowed.true
    c.in_ok-index.index c.enclosed.new.self c.in_ok-index.ensures c.in_ok-base-3.base c.in_ok-base-3.ensures

pub reached-returns-else-take_allowed : goal.reached-returns-else-take_allowed
reached-returns-else-take_allowed t c =
    last_part c.args.depth c.parts.base c.parts.self (reached (opened c.args.depth) c.args.self.now) c.parts.invariant
    c.take.result c.take.new.self c.take.ensures.found c.take.ensures.rest c.if-take.false c.take_allowed.result c.take_allowed.new.self c.take_allowed.ensures.found c.take_allowed.ensures.rest c.if-take_allowed.false

-- ---- items

pub arguments-returns-then-take_allowed : goal.arguments-returns-then-take_allowed
arguments-returns-then-take_allowed t c =
    no_arguments c.args.close c.args.counts c.args.self.now c.take_allowed.new.self c.take_allowed.result c.take_allowed.ensures.found c.take_allowed.ensures.rest c.make-items.result c.make-items.ensures
    (opened c.args.depth) c.if-take_allowed.true

pub arguments-items-init : goal.arguments-items-init
arguments-items-init t c =
    items_begin c.args.close c.args.counts c.args.self.now c.take_allowed.new.self c.take_allowed.result c.take_allowed.ensures.found c.take_allowed.ensures.rest c.make-items.result c.make-items.ensures
    c.args.depth c.if-take_allowed.false c.if-depth-eq0.false c.takes_behind.result c.takes_behind.ensures c.if-not-takes_behind.false

pub arguments-returns-in_err-part : goal.arguments-returns-in_err-part
arguments-returns-in_err-part t c =
    let p = err_from_is_err_and c.from_residual.result c.from_residual.ensures.1 in
    rw (p.1, p.2) (no_item (expression (opened (c.args.depth - 1))) c.args.close c.args.counts c.items.items c.items.self (arguments (opened c.args.depth) c.args.close c.args.counts c.args.self.now) c.items.invariant.1
    c.in_err-part.field-0.0 c.expression.new.self c.in_err-part.ensures)

pub arguments-returns-then-take_allowed-2 : goal.arguments-returns-then-take_allowed-2
arguments-returns-then-take_allowed-2 t c =
    last_item (expression (opened (c.args.depth - 1))) c.args.close c.args.counts c.items.items c.items.self (arguments (opened c.args.depth) c.args.close c.args.counts c.args.self.now) c.items.invariant.1
    c.in_ok-part.part c.expression.new.self c.in_ok-part.ensures c.into_inner.result c.into_inner.ensures c.push.new.self c.in_ok-push.ensures.ok
    (nat_le c.args.counts.least c.len.result) (ap (λ (n : ℕ). nat_le c.args.counts.least n) c.len.ensures) c.take_allowed-in-items.result c.take_allowed-in-items.new.self c.take_allowed-in-items.ensures.found c.take_allowed-in-items.ensures.rest
    c.if-take_allowed-2.true

pub arguments-returns-then-not-take_allowed : goal.arguments-returns-then-not-take_allowed
arguments-returns-then-not-take_allowed t c =
    no_comma (expression (opened (c.args.depth - 1))) c.args.close c.args.counts c.items.items c.items.self (arguments (opened c.args.depth) c.args.close c.args.counts c.args.self.now) c.items.invariant.1
    c.in_ok-part.part c.expression.new.self c.in_ok-part.ensures c.into_inner.result c.into_inner.ensures c.push.new.self c.in_ok-push.ensures.ok
    (nat_le c.args.counts.least c.len.result) (ap (λ (n : ℕ). nat_le c.args.counts.least n) c.len.ensures) c.take_allowed-in-items.result c.take_allowed-in-items.new.self c.take_allowed-in-items.ensures.found c.take_allowed-in-items.ensures.rest
    c.if-take_allowed-2.false c.takes_behind-in-items.result (c.takes_behind-in-items.ensures ∙ ap (takes_behind c.args.counts.most) c.len-in-items.ensures) c.take_allowed-in-items-2.result c.take_allowed-in-items-2.new.self
    c.take_allowed-in-items-2.ensures.found c.take_allowed-in-items-2.ensures.rest c.if-not-take_allowed.true c.of-open.result.last c.of-open.result.choice c.of-open.ensures.last c.of-open.ensures.choice c.no_end.result c.no_end.ensures

pub arguments-items-smaller : goal.arguments-items-smaller
arguments-items-smaller t c =
    item_shorter (expression (opened (c.args.depth - 1))) c.args.close c.args.counts c.items.items c.items.self (arguments (opened c.args.depth) c.args.close c.args.counts c.args.self.now) c.items.invariant.1
    c.in_ok-part.part c.expression.new.self c.in_ok-part.ensures c.into_inner.result c.into_inner.ensures c.push.new.self c.in_ok-push.ensures.ok
    (nat_le c.args.counts.least c.len.result) (ap (λ (n : ℕ). nat_le c.args.counts.least n) c.len.ensures) c.take_allowed-in-items.result c.take_allowed-in-items.new.self c.take_allowed-in-items.ensures.found c.take_allowed-in-items.ensures.rest
    c.if-take_allowed-2.false c.takes_behind-in-items.result (c.takes_behind-in-items.ensures ∙ ap (takes_behind c.args.counts.most) c.len-in-items.ensures) c.take_allowed-in-items-2.result c.take_allowed-in-items-2.new.self
    c.take_allowed-in-items-2.ensures.found c.take_allowed-in-items-2.ensures.rest (expression_keeps (opened (c.args.depth - 1)) (opened_opens (c.args.depth - 1))) c.if-not-take_allowed.false

pub arguments-items-preserved : goal.arguments-items-preserved
arguments-items-preserved t c = (
  c.items.invariant.0,
  next_item (expression (opened (c.args.depth - 1))) c.args.close c.args.counts c.items.items c.items.self (arguments (opened c.args.depth) c.args.close c.args.counts c.args.self.now) c.items.invariant.1
      c.in_ok-part.part c.expression.new.self c.in_ok-part.ensures c.into_inner.result c.into_inner.ensures c.push.new.self c.in_ok-push.ensures.ok
      (nat_le c.args.counts.least c.len.result) (ap (λ (n : ℕ). nat_le c.args.counts.least n) c.len.ensures) c.take_allowed-in-items.result c.take_allowed-in-items.new.self c.take_allowed-in-items.ensures.found c.take_allowed-in-items.ensures.rest
      c.if-take_allowed-2.false c.takes_behind-in-items.result (c.takes_behind-in-items.ensures ∙ ap (takes_behind c.args.counts.most) c.len-in-items.ensures) c.take_allowed-in-items-2.result c.take_allowed-in-items-2.new.self
      c.take_allowed-in-items-2.ensures.found c.take_allowed-in-items-2.ensures.rest (expression_keeps (opened (c.args.depth - 1)) (opened_opens (c.args.depth - 1))) c.if-not-take_allowed.false,
)

-- ---- rules with no loop

pub atom-returns-in-Some-eq40 : goal.atom-returns-in-Some-eq40
atom-returns-in-Some-eq40 t c =
    let is : c.in-Some-eq40.field-0 ≡ 40 = cc in
    let same = in_brackets c.args.depth c.in-Some-eq40.field-0 c.args.self.now c.skip_spaces.new.self c.bump-in-Some-eq40.new.self c.skip_spaces.ensures (sym c.peek.ensures ∙ c.in-Some-eq40.is) is c.bump-in-Some-eq40.ensures c.if-depth-gt0.true in
    subst (λ (a : Answer ℕ (Bad (Unit {0})) Expr). Gives a c.enclosed.result c.enclosed.new.self) (sym same) c.enclosed.ensures

pub called-returns-then-depth-eq0 : goal.called-returns-then-depth-eq0
called-returns-then-depth-eq0 t c =
    elim c.then-depth-eq0.branch [
      | called-then-depth-eq0-via-then-depth-eq0 w ↦
          let same = closed_call c.args.function c.args.depth c.args.name.now c.args.self.now c.then-depth-eq0.self w.if-depth-eq0.true w.self-is in
          subst (λ (a : Answer ℕ (Bad (Unit {0})) Expr). Gives a c.not_called.result c.not_called.new.self) (sym same) c.not_called.ensures
      | called-then-depth-eq0-via-else-depth-eq0+then-not-take w ↦
          let same = not_a_call c.args.function c.args.depth c.args.name.now c.args.self.now w.take.new.self c.then-depth-eq0.self w.take.result w.if-depth-eq0.false w.take.ensures.found w.take.ensures.rest w.if-not-take.true w.self-is in
          subst (λ (a : Answer ℕ (Bad (Unit {0})) Expr). Gives a c.not_called.result c.not_called.new.self) (sym same) c.not_called.ensures
    ]

pub negation-returns-then-depth-eq0 : goal.negation-returns-then-depth-eq0
negation-returns-then-depth-eq0 t c =
    elim c.then-depth-eq0.branch [
      | negation-then-depth-eq0-via-then-depth-eq0 w ↦
          let same = negation_closed c.args.depth c.args.self.now c.then-depth-eq0.self w.if-depth-eq0.true w.self-is in
          subst (λ (a : Answer ℕ (Bad (Unit {0})) Part). Gives a c.comparison.result c.comparison.new.self) (sym same) c.comparison.ensures
      | negation-then-depth-eq0-via-else-depth-eq0+then-not-take w ↦
          let same = negation_without c.args.depth c.args.self.now w.take.new.self c.then-depth-eq0.self w.take.result w.if-depth-eq0.false w.take.ensures.found w.take.ensures.rest w.if-not-take.true w.self-is in
          subst (λ (a : Answer ℕ (Bad (Unit {0})) Part). Gives a c.comparison.result c.comparison.new.self) (sym same) c.comparison.ensures
    ]
