use Rattle.segment_carry.proofs.LawLemmas.{stopped-counts}
use Rattle.segment_carry.proofs.laws.stops_keep_counts.Goals as goal

pub returns : goal.returns
returns c = stopped-counts
