use Rattle.std.proofs.Common.{◌∙◌, ◌+◌, ◌&&◌, Bool, not, get_or, sym, subst, arith}
use Rattle.std.specs.Prelude.{◌==◌}
use Rattle.tpl_parse.proofs.RangeWalks.{Walked, found, none_found, goes_on}
use Rattle.tpl_parse.proofs.range_end.tried_range_end.Goals as goal

pub returns-then-leaves_range-clause-exact : goal.returns-then-leaves_range-clause-exact
returns-then-leaves_range-clause-exact c =
    found c.args.digits.now c.digits.count c.digits.dotted c.digits.placed c.digits.invariant (omega (arith, c.digits-test.true)) (sym c.leaves_range.ensures ∙ c.if-leaves_range.true)

pub digits-preserved : goal.digits-preserved
digits-preserved c =
    let next = goes_on c.args.digits.now c.digits.count c.digits.dotted c.digits.placed c.digits.invariant (omega (arith, c.digits-test.true)) (sym c.leaves_range.ensures ∙ c.if-leaves_range.false) in
    subst (λ (p : Bool). Walked c.args.digits.now (c.digits.count + 1) c.is_dotted-dotted.result p) (sym c.is_placed-placed.ensures)
    (subst (λ (d : Bool). Walked c.args.digits.now (c.digits.count + 1) d (c.digits.dotted && not (get_or c.args.digits.now c.digits.count 0 == 46))) (sym c.is_dotted-dotted.ensures) next)

pub returns-clause-exact : goal.returns-clause-exact
returns-clause-exact c =
    none_found c.args.digits.now c.digits.count c.digits.dotted c.digits.placed c.digits.invariant (omega (arith, c.digits-test.false))
