use Rattle.script_laws.proofs.ByScript.{actions-same, script-same}
use Rattle.script_laws.proofs.laws.scripts_said_directly.Goals as goal

pub returns-clause-script : goal.returns-clause-script
returns-clause-script c = script-same

pub returns-clause-list : goal.returns-clause-list
returns-clause-list c = actions-same
