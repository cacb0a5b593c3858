use Rattle.tpl_reads.proofs.WorkedRows.{agree, off, on}
use Rattle.tpl_reads.proofs.laws.each_entity_counts.Goals as goal

pub returns-clause-agree : goal.returns-clause-agree
returns-clause-agree c = agree

pub returns-clause-on : goal.returns-clause-on
returns-clause-on c = on

pub returns-clause-off : goal.returns-clause-off
returns-clause-off c = off
