-- What the engine keeps of the live runs: their frames, the dues of their delays, and which pairs are ready.
use Rattle.std.specs.Prelude.{◌≡◌, ◌⊎◌, ℕ, suc, ◌+◌, ◌-◌, ◌<◌, ◌≤◌, true, false, List, [], ◌∷◌, length, take, slice_get, Option, Some, None}
use Rattle.std.specs.List.{list_any}
use Rattle.timer_queue.specs.Timers.{Timer, due_of}
use Rattle.ha_model.specs.declared.record.EndCause.{EndCause}
use Rattle.ha_model.specs.declared.record.Record.{Record}
use Rattle.ha_journal.specs.Journal.{Journal, now, units}
use Rattle.ha_sight.specs.Scripts.{Branch}
use Rattle.ha_model.specs.Records.{CallEnds, Records, actions_of, ask_end, spots}
use Rattle.ha_ready.specs.Agree.{step_at}
use Rattle.script_step.specs.Gates.{Gate, Fronts, gate_at}
use Rattle.script_step.specs.Told.{IsAsk}
use Rattle.engine_parts.specs.Fronts.{fronts, Stands}
use Rattle.script_step.specs.declared.frames.Frames.{Frames}
use Rattle.engine_parts.specs.Waiting.{Asked, asked_at, TellsEnds}
use Rattle.ha_model.specs.Lawful.{is_running, record_of}
use Rattle.wait_set.specs.declared.asked.Asked as wait
use Rattle.wait_set.specs.Asked.{WaitTable as Waits, is_bare, is_of}

-- owners below this are automations, whose numbers are all below it; the wait that began at place p has the owner that is p above it
abbrev pub first_wait : ℕ
first_wait = 262144

-- a gate that is shut is known: the due of a delay is in the queue, under the place of its step; a wait was taken in, and of a bare one the
-- end that was named is the one that there is where called runs ended so
abbrev pub GateKept : CallEnds → Journal → List Timer → Waits → ℕ → Branch × Gate → Type 0
GateKept told j delays w serial (b, Gate.Free) = Unit {0}
GateKept told j delays w serial (b, Gate.From due) = (due ≤ now j) ⊎ ((p : ℕ) × (due_of p delays ≡ Some due) × (step_at j serial p ≡ true))
GateKept told j delays w serial (b, Gate.Behind ask p) =
    (a : Asked) × (asked_at w serial b ≡ Some a) × (a.place ≡ p) × (a.owner ≡ first_wait + p)
    × (p < length j) × (step_at j serial p ≡ true) × IsAsk (now (take (suc p) j)) ask a.ask
    × (is_bare a.ask ≡ true → a.named ≡ ask_end told j ask p)

abbrev pub GatesKept : CallEnds → Journal → List Timer → Waits → ℕ → Fronts → Type 0
GatesKept told j delays w serial [] = Unit {0}
GatesKept told j delays w serial (x ∷ xs) = GateKept told j delays w serial x × GatesKept told j delays w serial xs

-- the frames of a live run stand for its script on its places
pub record LiveKept (told : CallEnds) (j : Journal) (delays : List Timer) (w : Waits) (r : Record) (f : Frames) : Type 0 where
  pub live : r.end ≡ None
  pub serial : f.serial ≡ r.serial
  pub automation : f.automation ≡ r.automation
  pub stands : Stands f (actions_of (units j) r.automation) r.env (spots j r.serial)
  pub gates : GatesKept told j delays w r.serial (fronts f (spots j r.serial))

-- a run that has ended has no frames
abbrev pub HasEnd : Option (ℕ × EndCause) → Type 0
HasEnd None = ⊥
HasEnd (Some e) = Unit {0}

abbrev pub SlotKept : CallEnds → Journal → List Timer → Waits → Record → Option Frames → Type 0
SlotKept told j delays w r None = HasEnd r.end
SlotKept told j delays w r (Some f) = LiveKept told j delays w r f

-- each record has its slot, of which this holds
abbrev pub SlotsWith : (Record → Option Frames → Type 0) → Records → List (Option Frames) → Type 0
SlotsWith P [] [] = Unit {0}
SlotsWith P [] (f ∷ fs) = ⊥
SlotsWith P (r ∷ rs) [] = ⊥
SlotsWith P (r ∷ rs) (f ∷ fs) = P r f × SlotsWith P rs fs

abbrev pub SlotsKept : CallEnds → Journal → List Timer → Waits → Records → List (Option Frames) → Type 0
SlotsKept told j delays w = SlotsWith (SlotKept told j delays w)

-- a gate that is a wait's
abbrev pub IsWait : Option Gate → Type 0
IsWait None = ⊥
IsWait (Some Gate.Free) = ⊥
IsWait (Some (Gate.From due)) = ⊥
IsWait (Some (Gate.Behind ask p)) = Unit {0}

-- a wait that has not ended is one of a run with frames, whose branch is behind a wait
abbrev pub IsHeld : Journal → List (Option Frames) → wait.Asked → Type 0
IsHeld j os a =
    a.end ≡ None → (0 < a.ask.serial) × (f : Frames) × (slice_get os (a.ask.serial - 1) ≡ Some (Some f))
    × IsWait (gate_at a.ask.branch (fronts f (spots j a.ask.serial)))

-- all are, and no two are of one run and branch
abbrev pub AreHeld : Journal → List (Option Frames) → List wait.Asked → Type 0
AreHeld j os [] = Unit {0}
AreHeld j os (a ∷ asks) = IsHeld j os a × (list_any (is_of a.ask.serial a.ask.branch) asks ≡ false) × AreHeld j os asks

-- what is known where ready pairs are listed anew behind an entry: who made a step, and has not ended, runs, and its frames stand
pub record Waking (told : CallEnds) (rs : Records) (k : Journal) (w : Waits) (os : List (Option Frames)) (at : ℕ) : Type 0 where
  pub delays : List Timer
  pub now_is : at ≡ now k
  pub numbered : (s p : ℕ) → step_at k s p ≡ true → (0 < s) × (s ≤ length rs)
  pub running : (s p : ℕ) (r : Record) → step_at k s p ≡ true → record_of rs s ≡ Some r
      → r.end ≡ None → (r.serial ≡ s) × (is_running (length k) r ≡ true)
  pub resting : (s : ℕ) (r : Record) → record_of rs s ≡ Some r → HasEnd r.end → is_running (length k) r ≡ false
  pub stands : TellsEnds w k
  pub slots : SlotsKept told k delays w rs os
