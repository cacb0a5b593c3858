-- What a run wrote: what its journal gives, and then the status line.
use Rattle.std.specs.Prelude.{◌≡◌, Option, None}
use Rattle.ha_config.specs.Words.{Text}
use Rattle.ha_status.specs.Causes.{OneRose}
use Rattle.ha_status.specs.Written.{TookLine}
use Rattle.bus_turn.specs.Buses.{IsWritten}
use Rattle.bus_turn.specs.Growth.{KeeperGrows, SinkGrows}
use Rattle.bus_turn.specs.Shown.{BusView}
use Rattle.bus_turn.specs.States.{Outside, outside}
use Rattle.ha_run.specs.Core.{IsEndCut, IsEndWritten, IsPartWritten, view_of}
use Rattle.ha_run.specs.Stands.{Writings}
use Rattle.ha_top.specs.Views.{After, Before}

-- the journal with its records, and what the sinks took and the keeper holds before the status line, of which the error sink took this
abbrev pub seen : After → Option Text → BusView
seen a errors = view_of a.journal a.records (outside a.out (record a.err { took = errors }) a.trace a.keep)

abbrev pub handed : Before → Outside
handed b = outside b.out b.err None b.keep

-- behind these errors the error sink took the status line: whole, unless that sink faulted, or memory ran out
abbrev pub LineBehind : Before → After → Option Text → Type 0
LineBehind b a errors = TookLine (OneRose b.err.faults a.err.faults b.err.zeros a.err.zeros) a.status errors a.err.took

-- the sinks took exactly the calls, the errors and the trace of the journal, with its end line, and the keeper holds the text of its
-- switches
pub record EndWritten (b : Before) (a : After) : Type 0 where
  pub errors : Option Text
  pub texts : IsEndWritten (seen a errors)
  pub line : LineBehind b a errors

-- they took exactly that, but for a part of the end line of the trace
pub record EndCutWritten (b : Before) (a : After) : Type 0 where
  pub errors : Option Text
  pub texts : IsEndCut (seen a errors)
  pub line : LineBehind b a errors

-- they took exactly that, but for the end line of the trace
pub record AllWritten (b : Before) (a : After) : Type 0 where
  pub errors : Option Text
  pub texts : IsWritten (seen a errors)
  pub line : LineBehind b a errors

-- They took that, but for the end line and a part of what the last entry gives at most. At the boot alone the keeper may hold what it held
-- before.
pub record SomeWritten (b : Before) (a : After) : Type 0 where
  pub errors : Option Text
  pub texts : IsPartWritten (handed b) (seen a errors)
  pub line : LineBehind b a errors

-- the status line alone was written, and the keeper holds what it held
pub record NoneWritten (b : Before) (a : After) : Type 0 where
  pub no_call : a.out.took ≡ b.out.took
  pub no_trace : a.trace ≡ None
  pub no_store : a.keep.kept ≡ b.keep.kept
  pub line : LineBehind b a b.err.took

abbrev pub written : Before → After → Writings
written b a =
    record {
      Ended = EndWritten b a;
      EndCut = EndCutWritten b a;
      Whole = AllWritten b a;
      Part = SomeWritten b a;
      Nothing = NoneWritten b a;
    }

-- the sinks and the keeper are those that were handed in: what they tell is told as before, they have their names, and no count fell
pub record AreTheSame (b : Before) (a : After) : Type 0 where
  pub out : SinkGrows b.out a.out
  pub err : SinkGrows b.err a.err
  pub keep : KeeperGrows b.keep a.keep
