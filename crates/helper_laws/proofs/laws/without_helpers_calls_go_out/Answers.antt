use Rattle.ha_sight.proofs.HelperCalls.{scripts-alone}
use Rattle.helper_laws.proofs.NoHelpers.{gone-without, known-without, report-without}
use Rattle.helper_laws.proofs.laws.without_helpers_calls_go_out.Goals as goal

pub returns-clause-report : goal.returns-clause-report
returns-clause-report c j none e text attributes = report-without j none e text attributes

pub returns-clause-gone : goal.returns-clause-gone
returns-clause-gone c j none e = gone-without j none e

pub returns-clause-known : goal.returns-clause-known
returns-clause-known c j none = known-without j none

pub returns-clause-call : goal.returns-clause-call
returns-clause-call c sight none service targets fields = scripts-alone sight service targets fields none
