use Rattle.state_table.proofs.TableLemmas.{empty-seen}
use Rattle.state_table.proofs.table.StateTable.make.Goals as goal

pub returns : goal.returns
returns c = empty-seen c.new.result c.new-2.result c.new.ensures.empty c.new-2.ensures.empty
