use Rattle.std.proofs.Common.{◌≡◌, ◌++◌, drop}
use Rattle.segment_carry.specs.ByName.{back_of, front_of}
use Rattle.segment_carry.proofs.numbers.put_front.Given as goal

abbrev pub invariant-left : goal.invariant-left
invariant-left l = record {
  made : l.made ++ front_of l.name (drop l.to l.left) ≡ l.initial.made ++ front_of l.name (drop l.at l.left);
  next : back_of l.name (drop l.to l.left) ≡ back_of l.name (drop l.at l.left);
}
