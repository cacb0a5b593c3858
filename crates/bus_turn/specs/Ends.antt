-- What the end of a bus makes of what lies outside.
use Rattle.std.specs.Prelude.{◌≡◌, true, false, length, Option, None, Some, IfSome, IsSomeAnd}
use Rattle.ha_journal.specs.Journal.{Journal}
use Rattle.ha_journal.specs.EntryText.{end_line}
use Rattle.bus_turn.specs.declared.fault.BusFault.{BusFault}
use Rattle.bus_turn.specs.States.{SinkState, Outside}
use Rattle.bus_turn.specs.Writes.{WritesIn}
use Rattle.bus_turn.specs.Buses.{HasTaken, HasTakenFront, SinkFailed}
use Rattle.ha_whole.specs.Trace.{trace_text}

-- the end line is written to the trace, where there is one, and nothing else is
pub record Ends (j : Journal) (before : Outside) (first : Option BusFault) (after : Outside) : Type 0 where
  pub calls : after.calls ≡ before.calls
  pub errors : after.errors ≡ before.errors
  pub trace : WritesIn (end_line (length j)) before.trace first after.trace
  pub keep : after.keep ≡ before.keep

-- The trace's sink took all of the trace with its end line. After a failed write, as its counts tell, or want of memory, a part of that
-- line may be missing. No other fault comes.
abbrev pub HasEnded : Journal → Option BusFault → Option SinkState → Type 0
HasEnded j None trace = IfSome trace (HasTaken (trace_text j true))
HasEnded j (Some (BusFault.Write zero)) trace =
    IsSomeAnd trace (λ s. HasTakenFront (trace_text j false) (trace_text j true) s × SinkFailed (BusFault.Write zero) s)
HasEnded j (Some BusFault.Keep) trace = ⊥
HasEnded j (Some BusFault.Full) trace = ⊥
HasEnded j (Some BusFault.Memory) trace = IsSomeAnd trace (HasTakenFront (trace_text j false) (trace_text j true))
