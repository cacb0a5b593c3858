use Rattle.flow_printed.proofs.FairLemmas.{fair_anywhere}
use Rattle.flow_printed.proofs.laws.fair_anywhere.Goals as goal

pub returns : goal.returns
returns c = λ has helps more x fair. fair_anywhere has helps more x fair
