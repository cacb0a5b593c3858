use Rattle.whole_laws.proofs.CallLemmas.{calls-same}
use Rattle.whole_laws.proofs.NumberLemmas.{numbers-more}
use Rattle.whole_laws.proofs.laws.calls_of_grown_records.Goals as goal

pub returns-clause-numbers : goal.returns-clause-numbers
returns-clause-numbers c = numbers-more

pub returns-clause-calls : goal.returns-clause-calls
returns-clause-calls c = calls-same
