use Rattle.ha_ready.proofs.AgreeLemmas.{agree-first, agree-run, agree-grown, agree-all}
use Rattle.ha_ready.proofs.laws.pairs_agree_but_for_some.Goals as goal

pub returns-clause-first : goal.returns-clause-first
returns-clause-first c = agree-first

pub returns-clause-run : goal.returns-clause-run
returns-clause-run c = agree-run

pub returns-clause-grown : goal.returns-clause-grown
returns-clause-grown c = agree-grown

pub returns-clause-all : goal.returns-clause-all
returns-clause-all c = agree-all
