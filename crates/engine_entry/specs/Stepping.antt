-- The stages of the work on a step.
use Rattle.std.specs.Prelude.{◌≡◌, ◌≢◌, ℕ, suc, ◌+◌, ◌-◌, ◌<◌, ◌≤◌, Bool, ◌&&◌, not, false, true, IsTrue, is_none, nat_eq, List, [], ◌∷◌}
use Rattle.std.specs.Prelude.{◌++◌, length, set, slice_get, Option, Some, None, option_map, option_and_then, if◌then◌else◌}
use Rattle.std.specs.List.{list_any}
use Rattle.timer_queue.specs.Timers.{Timer}
use Rattle.ha_model.specs.declared.record.EndCause.{EndCause}
use Rattle.ha_journal.specs.declared.entry.Entry.TheVariants.{Step}
use Rattle.ha_sight.specs.declared.helped.HelperChange.{HelperChange}
use Rattle.ha_sight.specs.declared.item.Item.{Item}
use Rattle.ha_model.specs.declared.record.Record.{Record}
use Rattle.ha_sight.specs.declared.waiting.WaitAsk.{WaitAsk}
use Rattle.ha_sight.specs.declared.waiting.WaitEnd.{WaitEnd}
use Rattle.ha_sight.specs.declared.steps.Progress.{Progress}
use Rattle.ha_sight.specs.declared.steps.StepOut.{StepOut}
use Rattle.ha_journal.specs.Journal.{Journal, HasEntry, IsJournal, now, more, units}
use Rattle.ha_sight.specs.Sight.{Sight}
use Rattle.ha_sight.specs.Scripts.{Branch}
use Rattle.ha_model.specs.NextPlace.{next_end}
use Rattle.ha_model.specs.Records.{Records, actions_of, spots, next_spot}
use Rattle.ha_model.specs.Lawful.{Right, IsRightEntry, is_quiet, record_of}
use Rattle.ha_config.specs.Sound.{are_sound_triggers}
use Rattle.ha_ready.specs.Picked.{IsPicked}
use Rattle.ha_ready.specs.RestedFlags.{RestedKept}
use Rattle.ha_ready.specs.ReadyPairs.{ends_at}
use Rattle.run_modes.specs.Table.{stopped}
use Rattle.script_calls.specs.Waiting.{Waiting, caller_of}
use Rattle.script_step.specs.declared.frames.Frames.{Frames}
use Rattle.script_step.specs.Continuation.{Began, placed}
use Rattle.script_step.specs.Frames as run
use Rattle.script_step.specs.Frames.{Steps, ask_of, asked_by, may}
use Rattle.script_step.specs.Gates.{due_of, fronts_of, gate_at}
use Rattle.script_step.specs.Told.{AreTold}
use Rattle.trig_set.specs.Next.{Listed, changes_helpers}
use Rattle.trig_set.specs.Stands as triggers
use Rattle.wait_set.specs.declared.asked.Asked.{Asked}
use Rattle.wait_set.specs.Asked.{WaitTable as Waits, added, is_of}
use Rattle.wait_set.specs.Stands as waits
use Rattle.engine_parts.specs.declared.parts.Parts.{Parts}
use Rattle.engine_parts.specs.Called.{CallsKept}
use Rattle.engine_parts.specs.Fronts.{Stands, fronts}
use Rattle.engine_parts.specs.Kept.{Going, Kept, KeysBelow, Owned, RunsKept, Sees, nobody}
use Rattle.engine_parts.specs.Owners.{AreBelow}
use Rattle.engine_parts.specs.Records.{IsTable}
use Rattle.engine_parts.specs.Runs.{IsWait, LiveKept, first_wait}
use Rattle.engine_parts.specs.Stages.{Entered}

-- ---- the step itself

-- some run is ready, and there is room for one more entry
pub record Stepping (j : Journal) (rs : Records) (p : Parts) : Type 0 where
  pub right : Right j rs
  pub room : length j < 1048576
  pub kept : Kept j rs p
  pub busy : is_quiet rs j ≡ false

-- the run in a slot, whose script is one of the journal's, may step in a branch, at a moment, where the branch's wait ended so
pub record MaySlot (j : Journal) (s : ℕ) (b : Branch) (at : ℕ) (wait : Option WaitEnd) (os : List (Option Frames)) : Type 0 where
  pub frames : Frames
  pub there : slice_get os (s - 1) ≡ Some (Some frames)
  pub script : actions_of (units j) frames.automation ≡ frames.script.value
  pub may : may frames b at wait ≡ true

-- the frames behind a step from those before it, and what it gave
pub record IsRunStep (sight : Sight) (b : Branch) (wait : Option WaitEnd) (old new : Frames) (out : StepOut) : Type 0 where
  pub steps : Steps sight b wait old out.item new
  pub told : (began : Began) (place : ℕ)
      → AreTold old.serial place sight.now b (fronts_of old began) (fronts_of new (placed b place began)) out
  pub progress : out.progress ≡ run.progress_of new
  pub wait_is : out.wait ≡ option_map (asked_by old.serial b sight.now) (ask_of new b)
  pub serial : new.serial ≡ old.serial
  pub automation : new.automation ≡ old.automation

-- the run in a slot made a step, and its branch is in a delay of this due, if it is in one
pub record SlotStep (sight : Sight) (s : ℕ) (b : Branch) (wait : Option WaitEnd)
    (os os' : List (Option Frames)) (out : StepOut) (due : Option ℕ) : Type 0 where
  pub old : Frames
  pub new : Frames
  pub there : slice_get os (s - 1) ≡ Some (Some old)
  pub behind : os' ≡ set os (s - 1) (Some new)
  pub step : IsRunStep sight b wait old new out
  pub due_is : (began : Began) → due ≡ option_and_then due_of (gate_at b (fronts_of new began))

-- how a run ends whose script is so far
abbrev pub cause_of : Progress → Option EndCause
cause_of Progress.Going = None
cause_of Progress.Done = Some EndCause.Done
cause_of Progress.Stopped = Some EndCause.Stopped
cause_of Progress.Faulted = Some EndCause.Faulted

-- ---- the stops of a step

-- the automations that are turned off so that their runs end, and the scripts whose runs end
abbrev pub turned_in : List (ℕ × Bool × Bool) → List ℕ
turned_in [] = []
turned_in (t ∷ ts) = if not t.1 && t.2 then t.0 ∷ turned_in ts else turned_in ts

abbrev pub turned_by : Item → List ℕ
turned_by (Item.Switched targets) = turned_in targets
turned_by Item.Nothing = []
turned_by (Item.Call service target fields) = []
turned_by (Item.Fired kind pairs) = []
turned_by (Item.Triggered automations skip) = []
turned_by (Item.Failed code) = []
turned_by (Item.Started scripts fields waits) = []
turned_by (Item.Halted scripts) = scripts
turned_by (Item.Helped changes) = []

-- the records where the runs of these have ended at a place
abbrev pub stops_each : ℕ → List (ℕ × Bool × Bool) → Records → Records
stops_each p [] rs = rs
stops_each p (t ∷ ts) rs = stops_each p ts (if not t.1 && t.2 then stopped (Some t.0) p EndCause.SwitchedOff rs else rs)

abbrev pub halts_each : ℕ → List ℕ → Records → Records
halts_each p [] rs = rs
halts_each p (s ∷ ss) rs = halts_each p ss (stopped (Some s) p EndCause.SwitchedOff rs)

abbrev pub stops_by : ℕ → Item → Records → Records
stops_by p (Item.Switched targets) rs = stops_each p targets rs
stops_by p Item.Nothing rs = rs
stops_by p (Item.Call service target fields) rs = rs
stops_by p (Item.Fired kind pairs) rs = rs
stops_by p (Item.Triggered automations skip) rs = rs
stops_by p (Item.Failed code) rs = rs
stops_by p (Item.Started scripts fields waits) rs = rs
stops_by p (Item.Halted scripts) rs = halts_each p scripts rs
stops_by p (Item.Helped changes) rs = rs

-- the run that ends is there, and a run that has not begun has no places
pub record StepEnds (k : Journal) (rs : Records) (serial : ℕ) : Type 0 where
  pub table : IsTable k rs
  pub some : 0 < length k
  pub low : 0 < serial
  pub high : serial ≤ length rs
  pub nowhere : (q : ℕ) (r : Record) → record_of rs q ≡ Some r → r.begin ≡ None → r.end ≡ None → (serial ≡ q → ⊥) → spots k q ≡ []

-- ---- what is known of the runs once the step was pushed

-- the last entry is a step of this run, whose frames stand behind it; nothing else knows of it yet
pub record StepRuns (k : Journal) (rs : Records) (progress : Progress) (wait : Option WaitAsk) (due : Option ℕ)
    (w : Waits) (delays : List Timer) (os' : List (Option Frames)) (pairs : List (ℕ × Branch)) (waiting : Waiting) : Type 0 where
  pub j : Journal
  pub worker : ℕ
  pub serial : ℕ
  pub branch : Branch
  pub out : StepOut
  pub journal_is : k ≡ more j (Step worker serial branch out.item)
  pub right : Right j rs
  pub fair : IsRightEntry rs j (Step worker serial branch out.item)
  pub picked : IsPicked rs j serial branch
  pub own : picked.run.serial ≡ serial
  pub low : 0 < serial
  pub waits_stand : waits.StandsFor w.asks j
  pub os : List (Option Frames)
  pub runs_kept : RunsKept (ends_at j) nobody j rs delays w os pairs
  pub calls_kept : CallsKept (ends_at j) j rs waiting os
  pub old : Frames
  pub new : Frames
  pub there : slice_get os (serial - 1) ≡ Some (Some old)
  pub live : LiveKept (ends_at j) j delays w picked.run old
  pub slots : os' ≡ set os (serial - 1) (Some new)
  pub serial_is : new.serial ≡ old.serial
  pub automation_is : new.automation ≡ old.automation
  pub stands : Stands new (actions_of (units j) picked.run.automation) picked.run.env (spots j serial ++ (next_spot j branch ∷ []))
  pub told : AreTold serial (length j) (now j) branch (fronts old (spots j serial))
      (fronts new (spots j serial ++ (next_spot j branch ∷ []))) out
  pub due_is : due ≡ option_and_then due_of (gate_at branch (fronts new (spots j serial ++ (next_spot j branch ∷ []))))
  pub wait_is : wait ≡ out.wait
  pub asked : (ask : WaitAsk) → wait ≡ Some ask
      → (ask.serial ≡ serial) × (ask.branch ≡ branch) × IsWait (gate_at branch (fronts new (spots j serial ++ (next_spot j branch ∷ []))))
  pub others : (c : Branch) → c ≢ branch → IsWait (gate_at c (fronts old (spots j serial)))
      → IsWait (gate_at c (fronts new (spots j serial ++ (next_spot j branch ∷ []))))
  pub free : list_any (λ a. is_of serial branch a && is_none a.end) w.asks ≡ false
  pub end_is : cause_of progress ≡ next_end j picked.run branch

-- what the step asks of the waits may be taken in
pub record IsTaken (wait : Option WaitAsk) (w : Waits) : Type 0 where
  pub sound : (ask : WaitAsk) → wait ≡ Some ask → IsTrue (are_sound_triggers ask.triggers)
  pub free : (ask : WaitAsk) → wait ≡ Some ask → list_any (λ a. is_of ask.serial ask.branch a && is_none a.end) w.asks ≡ false

-- the asks with that of a wait that began at a place
abbrev pub asks_with : ℕ → Option WaitAsk → List Asked → List Asked
asks_with place None asks = asks
asks_with place (Some ask) asks = added (record { owner = first_wait + place; place = place; ask = ask; end = None }) asks

-- who waits behind a step of run s in branch b: where that one calls, it waits for the run that comes after n
abbrev pub CallBegun : Bool → ℕ → ℕ → Branch → Waiting → Waiting → Type 0
CallBegun calls n s b old new = (c : ℕ) → caller_of c new ≡ (if calls && nat_eq (suc n) c then Some (s, b) else caller_of c old)

-- ---- the stages

pub record StepPushed (k : Journal) (rs : Records) (p : Parts) (progress : Progress) (wait : Option WaitAsk) (due : Option ℕ) : Type 0 where
  pub runs : StepRuns k rs progress wait due p.waits p.delays p.frames.items p.ready.pairs.items p.calls
  pub room : length runs.j < 1048576
  pub sees : Sees runs.j p
  pub triggers_stand : triggers.StandsFor p.triggers runs.j
  pub owned : Owned runs.j p.triggers p.waits
  pub keys_early : KeysBelow (length runs.j) p.delays
  pub rested_is : RestedKept runs.j rs p.rested.items
  pub taken : IsTaken wait p.waits

-- the last entry is a step, which changes no other than helpers, and the parts stand for the journal before it, but for the runs
pub record StepHere (k : Journal) (p : Parts) : Type 0 where
  pub j : Journal
  pub worker : ℕ
  pub serial : ℕ
  pub branch : Branch
  pub item : Item
  pub journal_is : k ≡ more j (Step worker serial branch item)
  pub journal : IsJournal k
  pub some : HasEntry j
  pub helped : changes_helpers j (Step worker serial branch item) ≡ true
  pub room : length j < 1048576
  pub sees : Sees j p
  pub triggers_stand : triggers.StandsFor p.triggers j
  pub waits_stand : waits.StandsFor p.waits.asks j
  pub owned : Owned j p.triggers p.waits
  pub keys_early : KeysBelow (length j) p.delays

-- it switches these
pub record SwitchedHere (k : Journal) (p : Parts) (targets : List (ℕ × Bool × Bool)) : Type 0 where
  pub here : StepHere k p
  pub item_is : here.item ≡ Item.Switched targets

-- it changes these helpers
pub record HelpedHere (k : Journal) (p : Parts) (changes : List HelperChange) : Type 0 where
  pub here : StepHere k p
  pub item_is : here.item ≡ Item.Helped changes

-- the states, the helpers, the switches and the triggers of the automations are those behind it; the wait and the delay that began are still to be taken
-- in
pub record StepEntered (k : Journal) (p : Parts) (before : Listed) (wait : Option WaitAsk) : Type 0 where
  pub entered : Entered k p before
  pub here : length k ≡ suc (length entered.untold.j)
  pub room : length entered.untold.j < 1048576
  pub below : AreBelow (first_wait + length entered.untold.j) (triggers.attached p.triggers)
  pub early : list_any (λ a. nat_eq a.owner (first_wait + length entered.untold.j)) p.waits.asks ≡ false
  pub keys_early : KeysBelow (length entered.untold.j) p.delays
  pub taken : IsTaken wait p.waits

-- all parts were told of the step; the records, the stops and the attempts, and the flags of the sources, are still to come
pub record StepTold (k : Journal) (rs : Records) (p : Parts) (progress : Progress) : Type 0 where
  pub j : Journal
  pub worker : ℕ
  pub serial : ℕ
  pub branch : Branch
  pub out : StepOut
  pub journal_is : k ≡ more j (Step worker serial branch out.item)
  pub room : length j < 1048576
  pub right : Right j rs
  pub fair : IsRightEntry rs j (Step worker serial branch out.item)
  pub picked : IsPicked rs j serial branch
  pub own : picked.run.serial ≡ serial
  pub low : 0 < serial
  pub end_is : cause_of progress ≡ next_end j picked.run branch
  pub going : Going nobody k rs p
  pub rested_is : RestedKept j rs p.rested.items

-- the same of the step of this run with this item
pub record StepTelling (k : Journal) (rs : Records) (p : Parts) (progress : Progress) (serial : ℕ) (item : Item) : Type 0 where
  pub told : StepTold k rs p progress
  pub serial_is : told.serial ≡ serial
  pub item_is : told.out.item ≡ item
