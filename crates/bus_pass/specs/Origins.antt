-- What never changes of a bus, and what its keeper holds while the boot stands alone.
use Rattle.std.specs.Prelude.{◌≡◌, length, option_map, is_some, slice_get}
use Rattle.bus_turn.specs.Buses.{HoldsStore}
use Rattle.bus_turn.specs.Shown.{BusView}
use Rattle.bus_turn.specs.States.{SinkState}
use Rattle.bus_pass.specs.declared.hand.Origin.{Origin}
use Rattle.bus_pass.specs.declared.hand.SinkMark.{SinkMark}

abbrev pub mark_of : SinkState → SinkMark
mark_of s = record { told = is_some s.took; name = s.name }

abbrev pub origin_of : BusView → Origin
origin_of b = record {
  boot = slice_get b.journal 0;
  calls = mark_of b.out.calls;
  errors = mark_of b.out.errors;
  trace = option_map mark_of b.out.trace;
  keep = is_some b.out.keep.kept;
}

-- while the boot stands alone, the keeper holds its text
abbrev pub IsStored : BusView → Type 0
IsStored b = length b.journal ≡ 1 → HoldsStore b.journal b.out.keep
