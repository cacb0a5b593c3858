use Rattle.std.proofs.Common.{◌-◌, length}
use Rattle.ha_replay.proofs.RoomLemmas.{NoAgainFrom}
use Rattle.ha_replay.proofs.room.in_segment.Given as goal

abbrev pub invariant-loop-i : goal.invariant-loop-i
invariant-loop-i l = NoAgainFrom (length l.journal - l.i) l.journal
