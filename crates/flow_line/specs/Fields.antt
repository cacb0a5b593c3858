-- Values of keys that are lent or tested.
use Rattle.std.specs.Prelude.{◌≡◌, Result, Ok, Err}
use Rattle.std.specs.Borrow.{Bor}
use Rattle.reading.specs.declared.fault.Stop.{Stop}
use Rattle.reading.specs.declared.fault.Stop.TheVariants as stops
use Rattle.flow_line.specs.declared.refusal.Refusal.{Refusal}
use Rattle.flow_line.specs.Command.{Checked}

-- what was lent is what was checked, unless memory ran out
abbrev pub SaysLent : {X : Type 0} → Checked X → Result (Bor X) (Stop Refusal) → Type 0
SaysLent checked (Ok x) = checked ≡ Ok x.now
SaysLent checked (Err stops.Memory) = Unit {0}
SaysLent checked (Err (stops.Fault refusal)) = checked ≡ Err refusal

-- there is what was checked, or the refusal says why not, unless memory ran out
abbrev pub IsThere : {X Y : Type 0} → Checked X → Result Y (Stop Refusal) → Type 0
IsThere {X} checked (Ok _) = (x : X) × (checked ≡ Ok x)
IsThere checked (Err stops.Memory) = Unit {0}
IsThere checked (Err (stops.Fault refusal)) = checked ≡ Err refusal
