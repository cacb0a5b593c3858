use Rattle.call_laws.proofs.AloneLemmas.{asks-none, calls-alone, calls-helped, entries-alone, stops-none, units-alone}
use Rattle.call_laws.proofs.PlainRuns.{runs-plain}
use Rattle.call_laws.proofs.laws.without_scripts_automations_are_alone.Goals as goal

pub returns-clause-units : goal.returns-clause-units
returns-clause-units c = units-alone

pub returns-clause-calls : goal.returns-clause-calls
returns-clause-calls c = calls-helped

pub returns-clause-outer : goal.returns-clause-outer
returns-clause-outer c = calls-alone

pub returns-clause-entries : goal.returns-clause-entries
returns-clause-entries c = entries-alone

pub returns-clause-runs : goal.returns-clause-runs
returns-clause-runs c = runs-plain

pub returns-clause-asks : goal.returns-clause-asks
returns-clause-asks c = asks-none

pub returns-clause-stops : goal.returns-clause-stops
returns-clause-stops c = stops-none
