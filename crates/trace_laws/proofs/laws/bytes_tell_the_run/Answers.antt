use Rattle.trace_laws.proofs.RunLemmas.{one_run, shorter_front}
use Rattle.trace_laws.proofs.laws.bytes_tell_the_run.Goals as goal

pub returns-clause-finished : goal.returns-clause-finished
returns-clause-finished c = one_run

pub returns-clause-so_far : goal.returns-clause-so_far
returns-clause-so_far c = shorter_front
