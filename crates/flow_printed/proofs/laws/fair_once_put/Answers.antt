use Rattle.flow_printed.proofs.FairLemmas.{fair_once_put}
use Rattle.flow_printed.proofs.laws.fair_once_put.Goals as goal

pub returns : goal.returns
returns c = λ read has helps more x fair. fair_once_put has helps more read x fair
