use Rattle.segment_carry.proofs.LawLemmas.{carried-moments}
use Rattle.segment_carry.proofs.MomentLemmas.{found-moments}
use Rattle.segment_carry.proofs.laws.moments_go_on.Goals as goal

pub returns-clause-found : goal.returns-clause-found
returns-clause-found c = found-moments

pub returns-clause-carried : goal.returns-clause-carried
returns-clause-carried c = carried-moments
