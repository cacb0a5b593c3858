-- How a worker ends, and what its pass notes then.
use Rattle.std.specs.Prelude.{◌≡◌, Option, Some, IsSome}
use Rattle.bus_turn.specs.declared.fault.BusFault.{BusFault}
use Rattle.ha_worker.specs.declared.end.WorkerEnd.{WorkerEnd}
use Rattle.ha_worker.specs.declared.ending.Ending.{Ending}
use Rattle.ha_worker.specs.declared.halt.Halt.{Halt}

abbrev pub ended_by : Ending → WorkerEnd
ended_by Ending.Ends = WorkerEnd.Ended
ended_by Ending.Fails = WorkerEnd.Lost
ended_by Ending.Exceeds = WorkerEnd.TooLong

-- where it stopped, its pass notes the first fault of the bus
abbrev pub Halts : Halt → Option BusFault → Type 0
Halts Halt.Stopped noted = IsSome noted
Halts Halt.Memory noted = Unit {0}

-- it stopped for a first fault of the bus, or the bus now keeps that memory ran out
abbrev pub Notes : WorkerEnd → Option BusFault → Type 0
Notes WorkerEnd.Ended noted = ⊥
Notes WorkerEnd.Lost noted = ⊥
Notes WorkerEnd.TooLong noted = ⊥
Notes WorkerEnd.Stopped noted = IsSome noted
Notes WorkerEnd.Memory noted = noted ≡ Some BusFault.Memory
