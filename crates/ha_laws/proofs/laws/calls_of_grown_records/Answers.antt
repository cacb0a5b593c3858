use Rattle.ha_laws.proofs.CallGrowth.{calls-same}
use Rattle.ha_laws.proofs.laws.calls_of_grown_records.Goals as goal

pub returns : goal.returns
returns c = calls-same
