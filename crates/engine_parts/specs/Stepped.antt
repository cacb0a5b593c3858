-- What is taken over from a step.
use Rattle.std.specs.Prelude.{◌≡◌, ◌≢◌, ◌⊎◌, ℕ, ◌+◌, ◌≤◌, false, nat_eq, List, Some, None}
use Rattle.timer_queue.specs.Timers.{Timer, due_of}
use Rattle.ha_sight.specs.declared.waiting.WaitAsk.{WaitAsk}
use Rattle.ha_sight.specs.declared.steps.StepOut.{StepOut}
use Rattle.ha_sight.specs.Scripts.{Branch}
use Rattle.script_step.specs.Gates.{Gate, Fronts, gate_at}
use Rattle.engine_parts.specs.Runs.{first_wait}
use Rattle.engine_parts.specs.Waiting.{AsksKept, EndsGrow, asked_at}
use Rattle.wait_set.specs.Asked.{WaitTable as Waits}

-- the due of a delay that began at place p is in the queue, or over
abbrev pub DueTaken : ℕ → ℕ → Branch → Fronts → List Timer → Type 0
DueTaken at p b new delays = (due : ℕ) → gate_at b new ≡ Some (Gate.From due) → (due ≤ at) ⊎ (due_of p delays ≡ Some due)

-- the ask of a wait that began at place p was taken in
abbrev pub AskTaken : ℕ → ℕ → Branch → StepOut → Waits → Type 0
AskTaken p serial b out w =
    (ask : WaitAsk) → out.wait ≡ Some ask → asked_at w serial b ≡ Some (record { owner = first_wait + p; place = p; ask = ask; named = None })

-- the asks of the run's other branches are the same
abbrev pub OthersKept : Waits → Waits → ℕ → Branch → Type 0
OthersKept w w' serial b = (c : Branch) → c ≢ b → asked_at w' serial c ≡ asked_at w serial c

-- the other runs' asks are the same, and their waits end as the set tells
pub record OthersTold (w w' : Waits) (s : ℕ) : Type 0 where
  pub asks : (q : ℕ) → nat_eq q s ≡ false → AsksKept w w' q
  pub grow : (q : ℕ) → nat_eq q s ≡ false → EndsGrow w w' q
