-- What the records of an entry leave of a run, and of its frames.
use Rattle.std.specs.Prelude.{◌≡◌, ◌⊎◌, Option, None}
use Rattle.ha_model.specs.declared.record.Record.{Record}
use Rattle.ha_ready.specs.RunPast.{SameScript}
use Rattle.script_step.specs.declared.frames.Frames.{Frames}
use Rattle.engine_parts.specs.Runs.{HasEnd}

-- the same run, which begins and ends where it did
pub record SameRun (r r' : Record) : Type 0 where
  pub script : SameScript r r'
  pub begin : r.begin ≡ r'.begin
  pub end : r.end ≡ r'.end

-- a slot where the record of its run is told anew: it is emptied where the run ends, and stays where it does not
abbrev pub SlotChanges : Record → Record → Option Frames → Option Frames → Type 0
SlotChanges r r' o o' = SameScript r r' × (((r.end ≡ r'.end) × (o' ≡ o)) ⊎ (HasEnd r'.end × (o' ≡ None)))
