-- What a step has to give.
use Rattle.std.specs.Prelude.{◌≡◌, ℕ, ◌-◌, List, [], ◌∷◌, ◌++◌, true, ◌||◌, map, Option, Some, None, length, if◌then◌else◌}
use Rattle.ha_config.specs.declared.template.Template.{Template}
use Rattle.ha_config.specs.declared.config.Form.{Form}
use Rattle.ha_config.specs.declared.config.Action.{Action}
use Rattle.ha_config.specs.declared.config.ActionKind.{ActionKind}
use Rattle.ha_config.specs.declared.config.ActionKind.TheOpen.{ActionKind-F}
use Rattle.ha_config.specs.declared.config.ActionKind.TheFolds.{fold-ActionKind, map-ActionKind}
use Rattle.ha_config.specs.Words.{Text}
use Rattle.ha_sight.specs.declared.item.Item.{Item}
use Rattle.ha_sight.specs.declared.waiting.WaitEnd.{WaitEnd}
use Rattle.ha_sight.specs.Sight.{Sight}
use Rattle.ha_sight.specs.Scripts.{Branch, Spot, Scopes, Next, Outcome, Ask, side_by_side, Meaning as ActionMeaning, Status, ends, exec, gives, called, behind_call, goes_into, looped, kind_step, action_step, run_action, scopes_behind}
use Rattle.script_step.specs.declared.fault.FieldFault.{FieldFault}
use Rattle.script_step.specs.declared.thread.Rounds.{Rounds}
use Rattle.script_step.specs.declared.thread.Frame.{Frame}
use Rattle.script_step.specs.declared.thread.Thread.{Thread}
use Rattle.script_step.specs.declared.strand.End.{End}
use Rattle.script_step.specs.declared.strand.Stage.{Stage}
use Rattle.script_step.specs.declared.strand.Strand.{Strand}
use Rattle.script_step.specs.declared.strand.Stage.TheFolds.{fold-Stage}
use Rattle.script_step.specs.Parts.{kind_of, part_in, tests_in, before, loop_by}
use Rattle.script_step.specs.Continuation.{Began, Meaning, StageMeaning, stage_step, strand_step, continuation, last_action}
use Rattle.script_step.specs.Continuation.{own_list, thread_next, asks, ask_side, ask_in, may_go_on, sides_from, placed}

-- what a stage means: the stage's part of the fold that `continuation` is
abbrev pub stage_meaning : Stage → StageMeaning
stage_meaning = fold-Stage StageMeaning Meaning stage_step strand_step

-- a thread in a stage
abbrev pub thread_on : List Action → Thread → Stage → Branch → Began → List Spot → Option Outcome
thread_on list t stage b began ps = stage_meaning stage (last_action list t) (thread_next b list t.outer t.here) t.scopes b began ps

-- the place of a thread gives the item, and then what the thread goes on with in its stage; nothing waits in its branch before it
abbrev pub IsTaken : Sight → List Action → (Branch → List Spot → Option Outcome) → Item → Thread → Stage → Type 0
IsTaken sight list before item new stage =
    (b : Branch) (began : Began) (s : Spot) (rest : List Spot) → s.sight ≡ sight → s.branch ≡ b
    → before b (s ∷ rest) ≡ gives item (thread_on list new stage b (placed [] s.place began) rest)

-- ---- blocks of which nothing is left

-- on every list of places the two go on alike
abbrev pub GoAlike : List Action → Thread → Thread → Type 0
GoAlike list old new =
    (b : Branch) (ps : List Spot)
    → thread_next b list old.outer old.here old.scopes ps ≡ thread_next b list new.outer new.here new.scopes ps

-- nothing is left
abbrev pub GoesToEnd : List Action → Thread → Type 0
GoesToEnd list t = (b : Branch) (ps : List Spot) → thread_next b list t.outer t.here t.scopes ps ≡ ends Status.Done ps

-- ---- one action

-- the kind's part of the fold that `run_action` is
abbrev pub run_kind : ActionKind → Spot → ActionMeaning
run_kind = fold-ActionKind (Spot → ActionMeaning) ActionMeaning kind_step action_step

-- an action's step at a place
abbrev pub kind_at : ActionKind-F ActionKind Action → Spot → ActionMeaning
kind_at k = kind_step (map-ActionKind ActionKind Action (Spot → ActionMeaning) ActionMeaning run_kind run_action k)

-- a frame whose list is over
abbrev pub at_last : List Action → Thread → Frame
at_last list t = record { inside = t.here.inside; at = length (own_list list t); turn = t.here.turn }

abbrev pub spot_at : Sight → Branch → ℕ → (Ask → ℕ → Option WaitEnd) → Spot
spot_at sight b p w = record { place = p; branch = b; sight = sight; wait_end = w }

-- the step of an action of this kind, which is the last that the old thread did, gives the item, and then what the new one goes on with
abbrev pub IsDone : Sight → List Action → ActionKind-F ActionKind Action → Thread → Item → Thread → Stage → Type 0
IsDone sight list k old item new stage =
    (b : Branch) (began : Began) (p : ℕ) (w : Ask → ℕ → Option WaitEnd) (rest : List Spot)
    → kind_at k (spot_at sight b p w) (thread_next b list old.outer old.here)
    (thread_next b list old.outer (at_last list old)) old.scopes b rest
    ≡ gives item (thread_on list new stage b (placed [] p began) rest)

abbrev pub Does : Sight → ActionKind-F ActionKind Action → Thread → Item → Thread → Stage → Type 0
Does sight k old item new stage =
    (list : List Action) (a : Action) → before (own_list list old) old.here.at ≡ Some a
    → kind_of a ≡ k → IsDone sight list k old item new stage

-- the item and the stage of a run whose action's field failed
abbrev pub IsFailure : FieldFault → Item → Stage → Type 0
IsFailure FieldFault.Template item stage = (item ≡ Item.Failed 1) × (stage ≡ Stage.Ended End.Faulted)
IsFailure FieldFault.Service item stage = (item ≡ Item.Failed 2) × (stage ≡ Stage.Ended End.Faulted)
IsFailure FieldFault.Target item stage = (item ≡ Item.Failed 3) × (stage ≡ Stage.Ended End.Faulted)
IsFailure FieldFault.Duration item stage = (item ≡ Item.Failed 4) × (stage ≡ Stage.Ended End.Faulted)
IsFailure FieldFault.Count item stage = (item ≡ Item.Failed 5) × (stage ≡ Stage.Ended End.Faulted)
IsFailure (FieldFault.Own n) item stage = (item ≡ Item.Failed n) × (stage ≡ Stage.Ended End.Faulted)
IsFailure FieldFault.Memory item stage = ⊥

-- behind this item of a call, whose wait begins at its place, a run in the stage goes on as the call does
abbrev pub GoesBehind : Item → Stage → Type 0
GoesBehind item stage =
    (a : Action) (service : Template) (target : List Template) (fields : List (Text × Form)) → kind_of a ≡ ActionKind-F.Call service target fields
    → (next : Next) (scopes : Scopes) (b : Branch) (began : Began) (rest : List Spot)
    → called item (behind_call item (began []) next scopes b rest) rest ≡ gives item (stage_meaning stage (Some a) next scopes b began rest)

-- going into list k of the last action, in one block more
abbrev pub IsInto : ℕ → Thread → Item → Thread → Stage → Type 0
IsInto k old item new stage =
    (list : List Action) (a : Action) → before (own_list list old) old.here.at ≡ Some a → (b : Branch) (began : Began) (rest : List Spot)
    → goes_into (exec (part_in (kind_of a) k)) (thread_next b list old.outer old.here) old.scopes b rest
    ≡ gives item (thread_on list new stage b began rest)

-- the first turn of a loop
abbrev pub IsFirst : Rounds → ℕ → Thread → Item → Thread → Stage → Type 0
IsFirst rounds most old item new stage =
    (list : List Action) (a : Action) → before (own_list list old) old.here.at ≡ Some a → (b : Branch) (began : Began) (rest : List Spot)
    → looped (exec (part_in (kind_of a) 0)) (loop_by rounds most (tests_in (kind_of a))) b
    (thread_next b list old.outer old.here) true (most - 1) old.scopes rest
    ≡ gives item (thread_on list new stage b began rest)

-- ---- one step

-- the wait of a branch, if there is one, ended so by what a place tells of one that began at p
abbrev pub Tells : Strand → List Action → Branch → ℕ → (Ask → ℕ → Option WaitEnd) → Option WaitEnd → Type 0
Tells x list path p w end = (ask : Ask) → asks x list path ≡ Some ask → w ask p ≡ end

-- on every list of places: a place of the branch, which sees this and tells this end, gives the item, and then what the new strand goes on
-- with
abbrev pub IsStep : Sight → List Action → Branch → Option WaitEnd → Strand → Item → Strand → Type 0
IsStep sight list path end old item new =
    (b : Branch) (began : Began) (s : Spot) (rest : List Spot) → s.sight ≡ sight
    → s.branch ≡ b ++ path → Tells old list path (began path) s.wait_end end
    → continuation old list b began (s ∷ rest) ≡ gives item (continuation new list b (placed path s.place began) rest)

-- the second place of a wait, whose thread's last action asked for it, and which ended so
abbrev pub IsWaited : List Action → WaitEnd → Thread → Thread → Stage → Type 0
IsWaited list e old new stage =
    (b : Branch) (began : Began) (rest : List Spot)
    → (if e.done || may_go_on (last_action list old)
    then thread_next b list old.outer old.here (scopes_behind (ask_in (last_action list old) None []) e old.scopes) rest else ends Status.Stopped rest)
    ≡ thread_on list new stage b began rest

-- one step in one list of a parallel block
abbrev pub IsSide : Sight → List (List Action) → Branch → Option WaitEnd → List Strand → Item → List Strand → Type 0
IsSide sight lists path end old item new =
    (b : Branch) (began : Began) (next : List Spot → Option Outcome) (s : Spot) (rest : List Spot) → s.sight ≡ sight → s.branch ≡ b ++ path
    → ((ask : Ask) → ask_side (map asks old) lists path ≡ Some ask → s.wait_end ask (began path) ≡ end)
    → side_by_side b (sides_from 0 (map continuation old) lists b began) next (s ∷ rest)
    ≡ gives item (side_by_side b (sides_from 0 (map continuation new) lists b (placed path s.place began)) next rest)
