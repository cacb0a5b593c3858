use Rattle.run_laws.proofs.EntryLaws.{by-calls, by-first-calls}
use Rattle.run_laws.proofs.laws.records_by_calls.Goals as goal

pub returns-clause-first : goal.returns-clause-first
returns-clause-first c = by-first-calls

pub returns-clause-more : goal.returns-clause-more
returns-clause-more c = by-calls
