-- What a put leaves as it was: the origin of a bus, and that its keeper holds the boot's text.
use Rattle.std.proofs.Common.{◌≡◌, refl, ap}
use Rattle.std.specs.Prelude.{Option, Some, None, option_map, slice_get}
use Rattle.bus_turn.specs.Growth.{OutGrows, SinkGrows, TraceGrows}
use Rattle.bus_turn.specs.Shown.{BusView}
use Rattle.bus_turn.specs.States.{SinkState}
use Rattle.bus_pass.specs.Origins.{mark_of, origin_of}
use Rattle.bus_pass.specs.declared.hand.SinkMark.{SinkMark}

mark_stays : (a b : SinkState) → SinkGrows a b → mark_of b ≡ mark_of a
mark_stays a b g = λ i. record { told = g.told i; name = g.same_name i }

trace_stays : (a b : Option SinkState) → TraceGrows a b → option_map mark_of b ≡ option_map mark_of a
trace_stays None None g = refl
trace_stays (Some a) (Some b) g = ap (λ (m : SinkMark). Some m) (mark_stays a b g)
trace_stays None (Some b) g = absurd g
trace_stays (Some a) None g = absurd g

pub origin_stays : (a b : BusView) → slice_get b.journal 0 ≡ slice_get a.journal 0 → OutGrows a.out b.out → origin_of b ≡ origin_of a
origin_stays a b boot g = λ i. record {
  boot = boot i;
  calls = mark_stays a.out.calls b.out.calls g.calls i;
  errors = mark_stays a.out.errors b.out.errors g.errors i;
  trace = trace_stays a.out.trace b.out.trace g.trace i;
  keep = g.keep.told i;
}
