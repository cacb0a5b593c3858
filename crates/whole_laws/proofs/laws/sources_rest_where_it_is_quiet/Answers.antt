use Rattle.whole_laws.proofs.RestLemmas.{line-busy, quiet-rested}
use Rattle.whole_laws.proofs.laws.sources_rest_where_it_is_quiet.Goals as goal

pub returns-clause-rested : goal.returns-clause-rested
returns-clause-rested c = quiet-rested

pub returns-clause-busy : goal.returns-clause-busy
returns-clause-busy c = line-busy
