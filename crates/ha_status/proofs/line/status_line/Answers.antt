use Rattle.std.proofs.Common.{append_assoc}
use Rattle.ha_status.specs.StatusLine.{status_line}
use Rattle.ha_status.proofs.line.status_line.Goals as goal

pub returns-in-ConfigRefused : goal.returns-in-ConfigRefused
unfolding status_line
returns-in-ConfigRefused c = rw c.in-ConfigRefused.is (simp append_assoc c.format.ensures.ok)

pub returns-in-SourceTooLong : goal.returns-in-SourceTooLong
unfolding status_line
returns-in-SourceTooLong c = rw c.in-SourceTooLong.is (simp append_assoc c.format-in-SourceTooLong.ensures.ok)

pub returns-in-TraceRefused : goal.returns-in-TraceRefused
unfolding status_line
returns-in-TraceRefused c = rw c.in-TraceRefused.is (simp append_assoc c.format-in-TraceRefused.ensures.ok)
