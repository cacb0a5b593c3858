use Rattle.state_table.proofs.NameLemmas.{cut-is}
use Rattle.state_table.proofs.names.cut.Goals as goal

pub returns : goal.returns
returns c = cut-is c.args.text.now c.split_once.result c.split_once.ensures.cases
