use Rattle.std.proofs.Common.{length}
use Rattle.segment_carry.proofs.numbers.+gathered.Given as goal

abbrev pub decreases-gathered : goal.decreases-gathered
decreases-gathered l = length l.names.now
