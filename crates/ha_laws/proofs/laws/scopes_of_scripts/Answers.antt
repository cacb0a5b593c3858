use Rattle.ha_laws.proofs.ScriptTests as tests
use Rattle.ha_laws.proofs.laws.scopes_of_scripts.Goals as goal

pub returns-clause-apart : goal.returns-clause-apart
returns-clause-apart c = tests.six_steps

pub returns-clause-raised : goal.returns-clause-raised
returns-clause-raised c = tests.raised_once

pub returns-clause-false_condition : goal.returns-clause-false_condition
returns-clause-false_condition c = tests.goes_on_behind
