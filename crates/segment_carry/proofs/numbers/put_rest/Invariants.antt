use Rattle.std.proofs.Common.{◌≡◌, ◌++◌, drop}
use Rattle.segment_carry.proofs.numbers.put_rest.Given as goal

abbrev pub invariant-left : goal.invariant-left
invariant-left l = l.made ++ drop l.to l.left ≡ l.initial.made ++ drop l.at l.left
