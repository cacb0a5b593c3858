use Rattle.std.proofs.Common.{◌-◌, length}
use Rattle.ha_replay.proofs.LastLemmas.{NoneFrom}
use Rattle.ha_replay.proofs.last.next_number.Given as goal

abbrev pub invariant-loop-i : goal.invariant-loop-i
invariant-loop-i l = NoneFrom l.source (length l.journal - l.i) l.journal
