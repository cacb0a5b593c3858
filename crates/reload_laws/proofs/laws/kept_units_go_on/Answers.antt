use Rattle.reload_laws.proofs.KeptLemmas.{kept-here}
use Rattle.reload_laws.proofs.KeptRuns.{runs-kept}
use Rattle.reload_laws.proofs.KeptUnits.{kept-holds, kept-on, kept-since, kept-unit}
use Rattle.reload_laws.proofs.laws.kept_units_go_on.Goals as goal

pub returns-clause-kept : goal.returns-clause-kept
returns-clause-kept g j x c some reloads sound a lt = kept-here j x c some reloads a sound lt

pub returns-clause-unit : goal.returns-clause-unit
returns-clause-unit g j x c some reloads a kept = kept-unit j x c some reloads a kept

pub returns-clause-switches : goal.returns-clause-switches
returns-clause-switches g j x c some reloads a kept = kept-on j x c some reloads a kept

pub returns-clause-on_since : goal.returns-clause-on_since
returns-clause-on_since g j x c some reloads a kept = kept-since j x c some reloads a kept

pub returns-clause-holds : goal.returns-clause-holds
returns-clause-holds g j x c some reloads a kept t e may = kept-holds j x c some reloads a kept t e may

pub returns-clause-runs : goal.returns-clause-runs
returns-clause-runs g j x c some reloads sound s r found kept = runs-kept j x c reloads s r some sound found kept
