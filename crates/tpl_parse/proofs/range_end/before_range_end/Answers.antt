use Rattle.std.proofs.Common.{◌∙◌, sym, length}
use Rattle.tpl_parse.specs.Literal.{before_range_end}
use Rattle.tpl_parse.proofs.RangeEnds.{one_more}
use Rattle.tpl_parse.proofs.range_end.before_range_end.Goals as goal

pub zeros-preserved : goal.zeros-preserved
zeros-preserved c =
    let zero = sym c.idle_zero.ensures.exact ∙ c.zeros-test.true in
    one_more c.zeros.zeros (before_range_end 0 c.args.digits.now c.args.digits.now) (length c.args.digits.now) c.zeros.left.now c.behind_first-left.result.now c.zeros.invariant zero (c.idle_zero.ensures.some c.zeros-test.true) c.behind_first-left.ensures
