use Rattle.std.proofs.lemmas.Result.{err_from_is_err_and}
use Rattle.std.proofs.Common.{sym, ◌∙◌, subst, ℕ}
use Rattle.ha_value.specs.declared.value.Value.{Value}
use Rattle.reading.specs.declared.fault.Bad.{Bad}
use Rattle.reading.specs.Answer.{Answer, Gives}
use Rattle.reading.specs.Bytes.{sees}
use Rattle.reading.proofs.Rows.{item_fails, goes_down, ends, comma_fails, goes_on}
use Rattle.flow_line.specs.declared.fault.Code.{Code}
use Rattle.flow_line.specs.declared.fault.Code.TheVariants.{Syntax}
use Rattle.flow_line.specs.Reading.{items, pair, pairs, value}
use Rattle.flow_line.proofs.Shorter.{value_shorter, pair_shorter}
use Rattle.flow_line.proofs.Starts.{value_numeric}
use Rattle.flow_line.proofs.value.FlowReader.+read.Goals as goal

pub items-returns-in_err-item : goal.items-returns-in_err-item
items-returns-in_err-item t c =
    let p = err_from_is_err_and c.from_residual-in_err-item.result c.from_residual-in_err-item.ensures.1 in
    rw (p.1, p.2) (item_fails Syntax 93 (λ _. value c.args.depth) c.items.items c.items.self (items (value c.args.depth) c.args.self.now) c.in_err-item.field-0.0 c.value.new.self c.items.invariant c.in_err-item.ensures)

pub items-returns-then-eat-2 : goal.items-returns-then-eat-2
items-returns-then-eat-2 t c =
    ends Syntax 93 (λ _. value c.args.depth) c.items.items c.items.self (items (value c.args.depth) c.args.self.now) c.in_ok-item.item c.value.new.self c.items.invariant c.in_ok-item.ensures
    c.skip_blanks-in-items.new.self c.skip_blanks-in-items.ensures c.eat-in-items.result c.eat-in-items.ensures.found c.push.new.self c.eat-in-items.new.self c.in_ok-push.ensures.ok c.if-eat-2.true c.eat-in-items.ensures.rest

pub items-returns-in_err-expect : goal.items-returns-in_err-expect
items-returns-in_err-expect t c =
    let p = err_from_is_err_and c.from_residual-in_err-expect.result c.from_residual-in_err-expect.ensures.1 in
    rw (p.1, p.2) (comma_fails Syntax 93 (λ _. value c.args.depth) c.items.items c.items.self (items (value c.args.depth) c.args.self.now) c.in_ok-item.item c.value.new.self c.items.invariant c.in_ok-item.ensures
    c.skip_blanks-in-items.new.self c.skip_blanks-in-items.ensures c.eat-in-items.result c.eat-in-items.ensures.found c.in_err-expect.field-0.0 c.eat-in-items.new.self c.expect.new.self c.if-eat-2.false c.eat-in-items.ensures.rest c.in_err-expect.ensures)

pub items-items-smaller : goal.items-items-smaller
items-items-smaller t c =
    goes_down Syntax 93 (λ _. value c.args.depth) c.items.self c.value.new.self c.skip_blanks-in-items.new.self c.eat-in-items.new.self c.expect.new.self c.skip_blanks-in-items-2.new.self (sees 93 c.skip_blanks-in-items.new.self)
    (value_shorter c.args.depth c.items.self c.in_ok-item.item c.value.new.self c.in_ok-item.ensures) c.skip_blanks-in-items.ensures (sym c.eat-in-items.ensures.found ∙ c.if-eat-2.false) c.eat-in-items.ensures.rest c.in_ok-expect.ensures c.skip_blanks-in-items-2.ensures

pub items-items-preserved : goal.items-items-preserved
items-items-preserved t c =
    goes_on Syntax 93 (λ _. value c.args.depth) c.items.items c.items.self (items (value c.args.depth) c.args.self.now) c.in_ok-item.item c.value.new.self c.items.invariant c.in_ok-item.ensures
    c.skip_blanks-in-items.new.self c.skip_blanks-in-items.ensures c.eat-in-items.result c.eat-in-items.ensures.found c.push.new.self c.eat-in-items.new.self c.expect.new.self c.skip_blanks-in-items-2.new.self c.in_ok-push.ensures.ok c.if-eat-2.false c.eat-in-items.ensures.rest c.in_ok-expect.ensures c.skip_blanks-in-items-2.ensures (items-items-smaller t c)

pub pairs-returns-in_err-pair : goal.pairs-returns-in_err-pair
pairs-returns-in_err-pair t c =
    let p = err_from_is_err_and c.from_residual-in_err-pair.result c.from_residual-in_err-pair.ensures.1 in
    rw (p.1, p.2) (item_fails Syntax 125 (pair (value c.args.depth)) c.pairs.pairs c.pairs.self (pairs (value c.args.depth) c.args.self.now) c.in_err-pair.field-0.0 c.pair.new.self c.pairs.invariant c.in_err-pair.ensures)

pub pairs-returns-then-eat-2 : goal.pairs-returns-then-eat-2
pairs-returns-then-eat-2 t c =
    ends Syntax 125 (pair (value c.args.depth)) c.pairs.pairs c.pairs.self (pairs (value c.args.depth) c.args.self.now) c.in_ok-pair.pair c.pair.new.self c.pairs.invariant c.in_ok-pair.ensures
    c.skip_blanks-in-pairs.new.self c.skip_blanks-in-pairs.ensures c.eat-in-pairs.result c.eat-in-pairs.ensures.found c.into_list.result c.eat-in-pairs.new.self (c.into_list.ensures ∙ c.in_ok-pairs-2.ensures) c.if-eat-2.true c.eat-in-pairs.ensures.rest

pub pairs-returns-in_err-expect : goal.pairs-returns-in_err-expect
pairs-returns-in_err-expect t c =
    let p = err_from_is_err_and c.from_residual-in_err-expect.result c.from_residual-in_err-expect.ensures.1 in
    rw (p.1, p.2) (comma_fails Syntax 125 (pair (value c.args.depth)) c.pairs.pairs c.pairs.self (pairs (value c.args.depth) c.args.self.now) c.in_ok-pair.pair c.pair.new.self c.pairs.invariant c.in_ok-pair.ensures
    c.skip_blanks-in-pairs.new.self c.skip_blanks-in-pairs.ensures c.eat-in-pairs.result c.eat-in-pairs.ensures.found c.in_err-expect.field-0.0 c.eat-in-pairs.new.self c.expect.new.self c.if-eat-2.false c.eat-in-pairs.ensures.rest c.in_err-expect.ensures)

pub pairs-pairs-smaller : goal.pairs-pairs-smaller
pairs-pairs-smaller t c =
    goes_down Syntax 125 (pair (value c.args.depth)) c.pairs.self c.pair.new.self c.skip_blanks-in-pairs.new.self c.eat-in-pairs.new.self c.expect.new.self c.skip_blanks-in-pairs-2.new.self (sees 125 c.skip_blanks-in-pairs.new.self)
    (pair_shorter c.args.depth c.pairs.pairs c.pairs.self c.in_ok-pair.pair c.pair.new.self c.in_ok-pair.ensures) c.skip_blanks-in-pairs.ensures (sym c.eat-in-pairs.ensures.found ∙ c.if-eat-2.false) c.eat-in-pairs.ensures.rest c.in_ok-expect.ensures c.skip_blanks-in-pairs-2.ensures

pub pairs-pairs-preserved : goal.pairs-pairs-preserved
pairs-pairs-preserved t c =
    goes_on Syntax 125 (pair (value c.args.depth)) c.pairs.pairs c.pairs.self (pairs (value c.args.depth) c.args.self.now) c.in_ok-pair.pair c.pair.new.self c.pairs.invariant c.in_ok-pair.ensures
    c.skip_blanks-in-pairs.new.self c.skip_blanks-in-pairs.ensures c.eat-in-pairs.result c.eat-in-pairs.ensures.found c.in_ok-pairs-2.pairs c.eat-in-pairs.new.self c.expect.new.self c.skip_blanks-in-pairs-2.new.self c.in_ok-pairs-2.ensures c.if-eat-2.false c.eat-in-pairs.ensures.rest c.in_ok-expect.ensures c.skip_blanks-in-pairs-2.ensures (pairs-pairs-smaller t c)

pub value-returns-in-Some : goal.value-returns-in-Some
value-returns-in-Some t c =
    let same = value_numeric c.args.depth c.args.self.now c.in-Some.b (sym c.peek.ensures ∙ c.in-Some.is) (sym c.begins_number.ensures ∙ c.if-begins_number.true) in
    subst (λ (a : Answer ℕ (Bad Code) Value). Gives a c.number_value.result c.number_value.new.self) (sym same) c.number_value.ensures
