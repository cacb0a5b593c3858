use Rattle.call_laws.proofs.PlaceLemmas.{run-waits}
use Rattle.call_laws.proofs.laws.callers_wait.Goals as goal

pub returns : goal.returns
returns c = run-waits
