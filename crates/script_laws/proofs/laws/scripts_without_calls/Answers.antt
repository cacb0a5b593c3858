use Rattle.script_laws.proofs.ByPlain.{script-plain}
use Rattle.script_laws.proofs.laws.scripts_without_calls.Goals as goal

pub returns : goal.returns
returns c = script-plain
