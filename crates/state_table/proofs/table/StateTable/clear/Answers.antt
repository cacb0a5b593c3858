use Rattle.state_table.proofs.TableLemmas.{empty-seen}
use Rattle.state_table.proofs.table.StateTable.clear.Goals as goal

pub returns : goal.returns
returns c = empty-seen c.clear.new.self c.clear-2.new.self c.clear.ensures.empty c.clear-2.ensures.empty
