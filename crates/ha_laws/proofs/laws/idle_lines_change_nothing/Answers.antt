use Rattle.ha_laws.proofs.IdleLines.{idle-changes-nothing}
use Rattle.ha_laws.proofs.laws.idle_lines_change_nothing.Goals as goal

pub returns : goal.returns
returns c = idle-changes-nothing
