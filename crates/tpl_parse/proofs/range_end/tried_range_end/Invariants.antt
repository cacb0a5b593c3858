use Rattle.std.proofs.Common.{◌-◌, length}
use Rattle.tpl_parse.proofs.RangeWalks.{Walked}
use Rattle.tpl_parse.proofs.range_end.tried_range_end.Given as goal

abbrev pub invariant-digits : goal.invariant-digits
invariant-digits l = Walked l.digits l.count l.dotted l.placed

abbrev pub decreases-digits : goal.decreases-digits
decreases-digits l = length l.digits - l.count
