use Rattle.std.proofs.Common.{◌≡◌, false, get_or, sym, ap, ◌∙◌, arith}
use Rattle.std.specs.Prelude.{replicate}
use Rattle.std.proofs.lemmas.List.{get_or_default}
use Rattle.ha_engine.specs.Reloads.{marked}
use Rattle.ha_engine.proofs.EachLemmas.{marked-done, marked-step, unmarked-more}
use Rattle.ha_engine.proofs.reload.marks_of.Goals as goal

pub units-init : goal.units-init
units-init c = (c.in_ok-marks.ensures.items, omega arith)

pub units-preserved : goal.units-preserved
units-preserved c = (unmarked-more c.units._at _ _ c.units.invariant.0 c.in_ok-push.ensures.items, omega (arith, c.units-test.true))

pub numbers-init : goal.numbers-init
numbers-init c =
    let all : c.units._at ≡ c.args.count = omega (arith, c.units.invariant.1, c.units-test.false) in
    ap (marked c.args.numbers.now) (c.units.invariant.0 ∙ ap (λ n. replicate n false) all)

pub numbers-preserved : goal.numbers-preserved
numbers-preserved c =
    marked-step c.args.numbers.now c.numbers.number-index (get_or c.args.numbers.now c.numbers.number-index 0) c.numbers.marks.items c.mark.new.marks.items c.numbers-test.true
    (get_or_default c.args.numbers.now c.numbers.number-index 0 (get_or c.args.numbers.now c.numbers.number-index 0) c.numbers-test.true) c.mark.ensures
    ∙ c.numbers.invariant

pub returns : goal.returns
returns c = sym (marked-done c.args.numbers.now c.numbers.number-index c.numbers.marks.items (omega (arith, c.numbers-test.false))) ∙ c.numbers.invariant
