use Rattle.segment_carry.proofs.HandsLemmas.{hands-of}
use Rattle.segment_carry.proofs.laws.the_opening_tells.Goals as goal

pub returns : goal.returns
returns c = hands-of
