use Rattle.whole_laws.proofs.CallLemmas.{call-counted, calls-alone}
use Rattle.whole_laws.proofs.laws.calls_are_counted.Goals as goal

pub returns-clause-own : goal.returns-clause-own
returns-clause-own c = calls-alone

pub returns-clause-step : goal.returns-clause-step
returns-clause-step c = call-counted
