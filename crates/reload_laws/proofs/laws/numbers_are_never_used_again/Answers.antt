use Rattle.ha_journal.proofs.ForceLaws.{unit-longer}
use Rattle.reload_laws.proofs.NumberLemmas.{gone-longer, new-behind, numbers-rise}
use Rattle.reload_laws.proofs.laws.numbers_are_never_used_again.Goals as goal

pub returns-clause-units : goal.returns-clause-units
returns-clause-units g j behind a lt = unit-longer j behind a lt

pub returns-clause-brought : goal.returns-clause-brought
returns-clause-brought g j x c some reloads a there other = new-behind j x c a some reloads there other

pub returns-clause-gone : goal.returns-clause-gone
returns-clause-gone g j behind a lt out = gone-longer j behind a lt out

pub returns-clause-runs : goal.returns-clause-runs
returns-clause-runs g j m n q r lt d e named = numbers-rise j m n q r lt d e named
