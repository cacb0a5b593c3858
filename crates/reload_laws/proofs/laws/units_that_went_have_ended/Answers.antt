use Rattle.reload_laws.proofs.KeptRuns.{runs-gone, silent}
use Rattle.reload_laws.proofs.laws.units_that_went_have_ended.Goals as goal

pub returns-clause-ended : goal.returns-clause-ended
returns-clause-ended g j behind x c some reloads s r found live gone = runs-gone j x c reloads behind s r some found live gone

pub returns-clause-silent : goal.returns-clause-silent
returns-clause-silent g j rs right n worker s branch item at p cause ends = silent j rs n worker s branch item p cause right at ends
