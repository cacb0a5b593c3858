use Rattle.std.proofs.Common.{◌≡◌, ◌+◌, true, arith}
use Rattle.std.specs.Char.{is_ascii_digit}
use Rattle.std.specs.List.{list_all}
use Rattle.ha_value.proofs.DigitLemmas.{value_step, value-front-le}
use Rattle.ha_value.proofs.num.read.units_of.Goals as goal

pub returns-then-units-gt-WHOLE_LIMIT : goal.returns-then-units-gt-WHOLE_LIMIT
returns-then-units-gt-WHOLE_LIMIT c = λ h.
    let digits : list_all is_ascii_digit c.args.text.now ≡ true = grind arith in
    omega (arith, value_step c.args.text.now c.loop-i.i digits c.loop-i-test.true, value-front-le c.args.text.now (c.loop-i.i + 1), c.loop-i.invariant.value, h.1)
