use Rattle.std.proofs.Common.{◌≡◌, ◌≤◌, ◌-◌, length, take}
use Rattle.ha_io.specs.Told.{Takes}
use Rattle.ha_io.proofs.whole.write_whole.Given as goal

abbrev pub invariant-loop-done : goal.invariant-loop-done
invariant-loop-done g l = record {
  within : l.done ≤ length l.text;
  taken : Takes (g.K.Sink.written l.initial.sink) (take l.done l.text) (g.K.Sink.written l.sink);
  faults : g.K.Sink.faults l.initial.sink ≤ g.K.Sink.faults l.sink;
  zeros : g.K.Sink.zeros l.initial.sink ≤ g.K.Sink.zeros l.sink;
  named : g.K.Sink.name l.sink ≡ g.K.Sink.name l.initial.sink;
}

abbrev pub decreases-loop-done : goal.decreases-loop-done
decreases-loop-done g l = length l.text - l.done
