use Rattle.conf_laws.proofs.Distinct.{text_distinct}
use Rattle.conf_laws.proofs.laws.keys_of_texts_are_distinct.Goals as goal

pub returns : goal.returns
returns c = λ text root h. text_distinct text root h
