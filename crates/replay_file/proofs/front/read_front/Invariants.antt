use Rattle.std.proofs.Common.{◌≡◌, ◌≤◌, ◌+◌, ◌-◌, ◌<◌, length, vec_len}
use Rattle.ha_io.specs.Told.{Gives}
use Rattle.replay_file.proofs.front.read_front.Given as goal

abbrev pub invariant-loop-source : goal.invariant-loop-source
invariant-loop-source g l = record {
  read : Gives (g.S.Source.left l.initial.source) l.text.items (g.S.Source.left l.source);
  within : length l.text.items ≤ l.bound + 1;
  buffer : 0 < vec_len l.buffer;
  faults : g.S.Source.faults l.initial.source ≤ g.S.Source.faults l.source;
  named : g.S.Source.name l.source ≡ g.S.Source.name l.initial.source;
}

abbrev pub decreases-loop-source : goal.decreases-loop-source
decreases-loop-source g l = l.bound + 1 - length l.text.items
