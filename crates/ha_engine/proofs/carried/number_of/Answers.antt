use Rattle.std.proofs.Common.{◌∙◌, sym, ap, arith}
use Rattle.std.specs.Prelude.{unwrap_or}
use Rattle.ha_engine.proofs.NameLoops.{pair-found, pair-none, pair-passed}
use Rattle.ha_engine.proofs.carried.number_of.Goals as goal

pub returns-then-same_text : goal.returns-then-same_text
returns-then-same_text c =
    ap (λ o. unwrap_or o 0)
    (sym (pair-found c.args.name.now c.args.numbers.now c.numbers.pair-index c.pair-item.result c.numbers-test.true c.pair-item.is (sym c.same_text.ensures ∙ c.if-same_text.true)) ∙ c.numbers.invariant)

pub numbers-preserved : goal.numbers-preserved
numbers-preserved c =
    pair-passed c.args.name.now c.args.numbers.now c.numbers.pair-index c.pair-item.result c.numbers-test.true c.pair-item.is (sym c.same_text.ensures ∙ c.if-same_text.false) ∙ c.numbers.invariant

pub returns : goal.returns
returns c = ap (λ o. unwrap_or o 0) (sym (pair-none c.args.name.now c.args.numbers.now c.numbers.pair-index (omega (arith, c.numbers-test.false))) ∙ c.numbers.invariant)
