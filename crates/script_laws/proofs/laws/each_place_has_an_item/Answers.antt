use Rattle.script_laws.proofs.ByScript.{list-used, script-used}
use Rattle.script_laws.proofs.laws.each_place_has_an_item.Goals as goal

pub returns-clause-list : goal.returns-clause-list
returns-clause-list c = list-used

pub returns-clause-script : goal.returns-clause-script
returns-clause-script c = script-used
