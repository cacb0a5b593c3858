use Rattle.std.proofs.Common.{◌≡◌, ◌++◌, drop}
use Rattle.segment_carry.specs.ByName.{put_all}
use Rattle.segment_carry.proofs.numbers.joined.Given as goal

abbrev pub invariant-right : goal.invariant-right
invariant-right l = l.made ++ put_all (drop l.to l.right) (drop l.at l.left) ≡ put_all l.right l.left
