-- Which places touch runs at an entry: those of delays that are over, and of waits that ended.
use Rattle.std.specs.Prelude.{◌≡◌, ◌⊎◌, Some, ℕ, ◌≤◌, ◌-◌, nat_le, List, map, filter}
use Rattle.timer_queue.specs.Timers.{Timer, due_of}
use Rattle.engine_parts.specs.Runs.{first_wait}

-- the places of the delays that are over at this moment
abbrev pub due_places : ℕ → List Timer → List ℕ
due_places now delays = map (λ t. t.1) (filter (λ t. nat_le t.0 now) delays)

-- the places of waits with these owners
abbrev pub wait_places : List ℕ → List ℕ
wait_places owners = map (λ o. o - first_wait) owners

-- the queue lost no due but of delays that are over
abbrev pub QueueKept : ℕ → List Timer → List Timer → Type 0
QueueKept at delays delays' = (p due : ℕ) → due_of p delays ≡ Some due → (due ≤ at) ⊎ (due_of p delays' ≡ Some due)
