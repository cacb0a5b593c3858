use Rattle.segment_carry.proofs.CountedLemmas.{counted-own}
use Rattle.segment_carry.proofs.LawLemmas.{next-numbers, table-records}
use Rattle.segment_carry.proofs.laws.numbers_go_on.Goals as goal

pub returns-clause-counted : goal.returns-clause-counted
returns-clause-counted c = counted-own

pub returns-clause-next : goal.returns-clause-next
returns-clause-next c = next-numbers

pub returns-clause-table : goal.returns-clause-table
returns-clause-table c = table-records
