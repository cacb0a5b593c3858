use Rattle.std.proofs.Common.{◌≡◌, ◌≤◌, ◌+◌, ◌-◌, ◌<◌, length, vec_len}
use Rattle.ha_io.specs.Told.{Gives}
use Rattle.ha_io.proofs.whole.read_whole.Given as goal

abbrev pub invariant-loop-bytes : goal.invariant-loop-bytes
invariant-loop-bytes g l = record {
  read : Gives (g.S.Source.left l.initial.source) l.bytes.items (g.S.Source.left l.source);
  within : length l.bytes.items ≤ l.bound + 1;
  buffer : 0 < vec_len l.buffer;
  faults : g.S.Source.faults l.initial.source ≤ g.S.Source.faults l.source;
  named : g.S.Source.name l.source ≡ g.S.Source.name l.initial.source;
}

abbrev pub decreases-loop-bytes : goal.decreases-loop-bytes
decreases-loop-bytes g l = l.bound + 1 - length l.bytes.items
