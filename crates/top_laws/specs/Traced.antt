-- Runs with their traces, and files that hold one.
use Rattle.std.specs.Prelude.{◌≡◌, ◌≤◌, ◌++◌, [], length, Some, IfSome, IsSomeAnd}
use Rattle.ha_io.specs.Told.{Takes}
use Rattle.ha_config.specs.Words.{Text}
use Rattle.ha_status.specs.declared.status.Status.{Status}
use Rattle.ha_status.specs.Causes.{OneRose}
use Rattle.ha_status.specs.Written.{IsLineOf}
use Rattle.bus_turn.specs.States.{SinkState}
use Rattle.replay_file.specs.Fronts.{most_bytes as most_trace_bytes}
use Rattle.ha_top.specs.Views.{After, Before}

-- a run came to its end: each of its sources did, or was lost or too long
abbrev pub HasEnded : Status → Type 0
HasEnded Status.Ok = Unit {0}
HasEnded (Status.ReadFault (Some source)) = Unit {0}
HasEnded (Status.SourceTooLong source) = Unit {0}
HasEnded _ = ⊥

-- The run came to its end, and the sink of its trace tells that it took this text.
pub record IsTraced (a : After) (text : Text) : Type 0 where
  pub ended : HasEnded a.status
  pub told : IsSomeAnd a.trace (λ s. s.took ≡ Some text)

-- the place tells that it holds this text under the name
abbrev pub IsHeld : Before → Text → Text → Type 0
IsHeld b name text = IsSomeAnd b.place.files (λ f. f name ≡ Some text)

-- so of a text that has no more bytes than a trace may have
pub record IsTraceHeld (b : Before) (name text : Text) : Type 0 where
  pub held : IsHeld b name text
  pub within : length text ≤ most_trace_bytes

-- ---- a run, and then a replay of its trace

-- behind what it had, a sink of the replay took what the run's sink tells that it took
abbrev pub TookAgain : SinkState → SinkState → SinkState → Type 0
TookAgain of_run before after = IfSome of_run.took (λ text. Takes before.took text after.took)

-- so but for this end of it
abbrev pub TookAgainBut : Text → SinkState → SinkState → SinkState → Type 0
TookAgainBut end of_run before after =
    IfSome of_run.took (λ text. (errors : Text) × (text ≡ errors ++ end) × Takes before.took errors after.took)

-- What the run wrote, from b to a, the replay wrote again, from b' to a': the calls and the errors. The status line of the run is not written
-- again; there is none at Ok.
pub record IsPlayedAgain (b : Before) (a : After) (b' : Before) (a' : After) : Type 0 where
  pub line : Text
  pub line_is : IsLineOf (OneRose b.err.faults a.err.faults b.err.zeros a.err.zeros) a.status line
  pub no_line : a.status ≡ Status.Ok → line ≡ []
  pub calls : TookAgain a.out b'.out a'.out
  pub errors : TookAgainBut line a.err b'.err a'.err
