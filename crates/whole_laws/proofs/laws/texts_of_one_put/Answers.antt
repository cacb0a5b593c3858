use Rattle.whole_laws.proofs.TextLemmas.{calls-put, errors-put, lines-put, trace-put}
use Rattle.whole_laws.proofs.laws.texts_of_one_put.Goals as goal

pub returns-clause-calls : goal.returns-clause-calls
returns-clause-calls c = calls-put

pub returns-clause-errors : goal.returns-clause-errors
returns-clause-errors c = errors-put

pub returns-clause-trace : goal.returns-clause-trace
returns-clause-trace c = trace-put

pub returns-clause-lines : goal.returns-clause-lines
returns-clause-lines c = lines-put
