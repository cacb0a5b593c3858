use Rattle.trace_laws.proofs.RunLemmas.{full_further, no_further, no_trace}
use Rattle.trace_laws.proofs.laws.no_trace_goes_further.Goals as goal

pub returns-clause-refused : goal.returns-clause-refused
returns-clause-refused c = no_further

pub returns-clause-full : goal.returns-clause-full
returns-clause-full c = full_further

pub returns-clause-finished : goal.returns-clause-finished
returns-clause-finished c = no_trace
