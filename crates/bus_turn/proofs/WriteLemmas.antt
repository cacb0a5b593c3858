-- What is written, by cases.
use Rattle.std.proofs.Common.{◌≡◌, sym, subst}
use Rattle.std.specs.Prelude.{Option, Some, None}
use Rattle.ha_config.specs.Words.{Text}
use Rattle.bus_turn.specs.declared.fault.BusFault.{BusFault}
use Rattle.bus_turn.specs.States.{SinkState}
use Rattle.bus_turn.specs.Writes.{Writes, WritesIn}

writes-some : (text : Text) (s s' : SinkState) (fault : Option BusFault) → Writes text s fault s' → WritesIn text (Some s) fault (Some s')
writes-some text s s' None h = h
writes-some text s s' (Some fault) h = h

-- the trace has a sink
pub writes-in : (text : Text) (before : Option SinkState) (s s' : SinkState) (fault : Option BusFault) → before ≡ Some s → Writes text s fault s' → WritesIn text before fault (Some s')
writes-in text before s s' fault is h = subst (λ o. WritesIn text o fault (Some s')) (sym is) (writes-some text s s' fault h)
