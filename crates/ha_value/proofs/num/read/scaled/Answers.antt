use Rattle.std.proofs.Common.{◌*◌, ◌-◌, ◌^◌, ◌<◌, length, arith}
use Rattle.std.specs.Str.Parse.{digits_value}
use Rattle.ha_value.proofs.DigitLemmas.{scaled_fits, value-lt}
use Rattle.ha_value.proofs.num.read.scaled.Goals as goal

pub overflow_mul-result : goal.overflow_mul-result
overflow_mul-result c =
    let fits : digits_value 10 c.args.places.now * 10 ^ (6 - length c.args.places.now) < 1_000_000 = scaled_fits _ _ c.requires.few (value-lt _ c.requires.digits) in
    rw (c.number_of.ensures, c.pow.ensures) (omega arith)

pub returns-clause-size : goal.returns-clause-size
returns-clause-size c =
    let fits : digits_value 10 c.args.places.now * 10 ^ (6 - length c.args.places.now) < 1_000_000 = scaled_fits _ _ c.requires.few (value-lt _ c.requires.digits) in
    rw (c.number_of.ensures, c.pow.ensures) fits
