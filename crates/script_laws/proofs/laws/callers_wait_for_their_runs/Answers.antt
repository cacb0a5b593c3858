use Rattle.script_laws.proofs.ByScript.{script-stands}
use Rattle.script_laws.proofs.laws.callers_wait_for_their_runs.Goals as goal

pub returns : goal.returns
returns c = script-stands
