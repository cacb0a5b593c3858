use Rattle.ha_laws.proofs.HallLightTests.{it_is_lawful, it_is_quiet}
use Rattle.ha_laws.proofs.TextTests as texts
use Rattle.ha_laws.proofs.laws.hall_light_goes_out.Goals as goal

pub returns-clause-lawful : goal.returns-clause-lawful
returns-clause-lawful c = it_is_lawful

pub returns-clause-quiet : goal.returns-clause-quiet
returns-clause-quiet c = it_is_quiet

pub returns-clause-calls : goal.returns-clause-calls
returns-clause-calls c = texts.calls
