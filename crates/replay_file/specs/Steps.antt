-- Between two lines of a trace.
use Rattle.std.specs.Prelude.{ℕ, ◌≡◌, ◌≤◌, ◌⊎◌, Bool, false, Option, None, Some}
use Rattle.ha_config.specs.Words.{Text}
use Rattle.bus_turn.specs.declared.fault.BusFault.{BusFault}
use Rattle.bus_turn.specs.States.{SinkState}
use Rattle.bus_turn.specs.Writes.{SinkCause, Took, TookFront}
use Rattle.ha_status.specs.declared.status.Status.{Status}
use Rattle.ha_whole.specs.Whole.{IsWithin}
use Rattle.ha_replay.specs.Traces.{Reached, Stands, told}
use Rattle.trace_laws.specs.Runs.{line_count}

-- the core takes a further line, and it is known how many were taken
pub record IsReady (r : Reached) (is_spent ended : Bool) (lines : ℕ) : Type 0 where
  pub usable : is_spent ≡ false
  pub stands : Stands r
  pub counted : lines ≡ line_count (told r) ended
  pub few : lines ≤ 4_194_305
  pub room : IsWithin r.journal

-- a call's text and an error's are written, in this order; after a fault nothing further is
abbrev pub WritesBoth : Text → Text → SinkState → SinkState → Option BusFault → SinkState → SinkState → Type 0
WritesBoth calls errors o e None o' e' = Took calls o o' × Took errors e e'
WritesBoth calls errors o e (Some fault) o' e' =
    TookFront calls o o' × TookFront errors e e' × (SinkCause fault o o' ⊎ SinkCause fault e e')

-- a failed write is one of this kind
abbrev pub IfWrite : Status → BusFault → Type 0
IfWrite (Status.WriteFault zero) fault = fault ≡ BusFault.Write zero
IfWrite _ fault = Unit {0}
