use Rattle.ha_laws.proofs.CallScript.{one-branch, one-call-ran}
use Rattle.ha_laws.proofs.laws.one_call_is_made.Goals as goal

pub returns-clause-branch : goal.returns-clause-branch
returns-clause-branch c = one-branch

pub returns-clause-call : goal.returns-clause-call
returns-clause-call c = one-call-ran
