use Rattle.call_laws.proofs.AttemptLemmas.{called-pass, called-records}
use Rattle.call_laws.proofs.laws.called_scripts_are_attempted.Goals as goal

pub returns-clause-attempts : goal.returns-clause-attempts
returns-clause-attempts c = called-pass

pub returns-clause-records : goal.returns-clause-records
returns-clause-records c = called-records
