use Rattle.std.proofs.Common.{append_assoc}
use Rattle.ha_status.specs.StatusLine.{status_line}
use Rattle.ha_status.proofs.line.read_fault_line.Goals as goal

pub returns-in-Some : goal.returns-in-Some
unfolding status_line
returns-in-Some c = rw c.in-Some.is (simp append_assoc c.format.ensures.ok)
