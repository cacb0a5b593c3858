-- What lies outside, from one time to a later one: what stays, what counts never fall, and whose count rose for a fault.
use Rattle.std.specs.Prelude.{◌≡◌, ◌≤◌, ◌⊎◌, Option, None, Some, is_some}
use Rattle.bus_turn.specs.declared.fault.BusFault.{BusFault}
use Rattle.bus_turn.specs.States.{SinkState, KeeperState, Outside}
use Rattle.bus_turn.specs.Writes.{KeeperCause, SinkCause}

-- what it took is told as before, and its counts never fall
pub record SinkGrows (before after : SinkState) : Type 0 where
  pub told : is_some after.took ≡ is_some before.took
  pub faults : before.faults ≤ after.faults
  pub zeros : before.zeros ≤ after.zeros
  pub same_name : after.name ≡ before.name

-- so of the trace's sink, where there is one
abbrev pub TraceGrows : Option SinkState → Option SinkState → Type 0
TraceGrows None None = Unit {0}
TraceGrows (Some before) (Some after) = SinkGrows before after
TraceGrows _ _ = ⊥

pub record KeeperGrows (before after : KeeperState) : Type 0 where
  pub told : is_some after.kept ≡ is_some before.kept
  pub faults : before.faults ≤ after.faults

pub record OutGrows (before after : Outside) : Type 0 where
  pub calls : SinkGrows before.calls after.calls
  pub errors : SinkGrows before.errors after.errors
  pub trace : TraceGrows before.trace after.trace
  pub keep : KeeperGrows before.keep after.keep

abbrev pub TraceCause : BusFault → Option SinkState → Option SinkState → Type 0
TraceCause fault (Some before) (Some after) = SinkCause fault before after
TraceCause fault _ _ = ⊥

-- the outside failed so between the two, as the counts of one part tell; or memory ran out
abbrev pub HasRisen : BusFault → Outside → Outside → Type 0
HasRisen fault before after =
    SinkCause fault before.calls after.calls
    ⊎ (SinkCause fault before.errors after.errors ⊎ (TraceCause fault before.trace after.trace ⊎ KeeperCause fault before.keep after.keep))
