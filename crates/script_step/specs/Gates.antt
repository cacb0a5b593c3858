-- The branches of a run that are at a place of their own, in order, and when each may take it.
use Rattle.std.specs.Prelude.{ℕ, suc, Bool, true, false, nat_le, bytes_eq, List, [], ◌∷◌, ◌++◌, map, filter}
use Rattle.std.specs.Prelude.{find, slice_get, Option, Some, None, is_some, option_map, if◌then◌else◌}
use Rattle.std.specs.Option.{option_map_or}
use Rattle.ha_config.specs.declared.config.Action.{Action}
use Rattle.ha_sight.specs.declared.waiting.WaitEnd.{WaitEnd}
use Rattle.ha_sight.specs.Scripts.{Branch, Spot, Ask, flat}
use Rattle.script_step.specs.declared.thread.Thread.{Thread}
use Rattle.script_step.specs.declared.strand.Strand.{Strand}
use Rattle.script_step.specs.declared.strand.Stage.TheOpen.{Stage-F}
use Rattle.script_step.specs.declared.strand.Stage.{Stage}
use Rattle.script_step.specs.declared.strand.Stage.TheFolds.{fold-Stage, fold-Strand}
use Rattle.script_step.specs.declared.frames.Frames.{Frames}
use Rattle.script_step.specs.Continuation.{Began, has_next, is_here, last_action, ask_in, lists_of, nth_list}
use Rattle.script_step.specs.Ready.{Ends}

-- a branch may step now, or once Now is at least a due, or once the wait that asks this and began at that place has ended
pub data Gate : Type 0 where
  Free : Gate
  From : ℕ → Gate
  Behind : Ask → ℕ → Gate

abbrev pub opens : Gate → Spot → Bool
opens Gate.Free s = true
opens (Gate.From due) s = nat_le due s.sight.now
opens (Gate.Behind ask p) s = is_some (s.wait_end ask p)

-- the branches, each with its gate
abbrev pub Fronts : Type 0
Fronts = List (Branch × Gate)

-- the gate of a branch that is at a place of its own
abbrev pub gate_at : Branch → Fronts → Option Gate
gate_at b fronts = option_map (λ x. x.1) (find (λ x. bytes_eq x.0 b) fronts)

-- a branch has a gate, which opens at a place
abbrev pub lets : Option Gate → Spot → Bool
lets gate s = option_map_or (λ g. opens g s) gate false

-- the gate is open at a moment, where the branch's wait ended so
abbrev pub is_open : ℕ → Option WaitEnd → Gate → Bool
is_open now end Gate.Free = true
is_open now end (Gate.From due) = nat_le due now
is_open now end (Gate.Behind ask p) = is_some end

abbrev pub open_now : ℕ → Ends → Fronts → List Branch
open_now now ends fronts = map (λ x. x.0) (filter (λ x. is_open now (ends x.0) x.1) fronts)

-- those whose gates open, with one place for each branch
abbrev pub open_branches : (Branch → Spot) → Fronts → List Branch
open_branches at fronts = map (λ x. x.0) (filter (λ x. opens x.1 (at x.0)) fronts)

-- the due of the delay that a gate is
abbrev pub due_of : Gate → Option ℕ
due_of (Gate.From due) = Some due
due_of Gate.Free = None
due_of (Gate.Behind ask p) = None

-- what the wait that a gate is behind asks, and where it began
abbrev pub wait_of : Gate → Option (Ask × ℕ)
wait_of (Gate.Behind ask p) = Some (ask, p)
wait_of Gate.Free = None
wait_of (Gate.From due) = None

-- ---- the fronts of a strand, by where its waits began

abbrev pub FrontsOf : Type 0
FrontsOf = List Action → Began → Fronts

abbrev pub StageFronts : Type 0
StageFronts = List Action → Thread → Began → Fronts

abbrev pub in_side : ℕ → Branch × Gate → Branch × Gate
in_side i x = (i ∷ x.0, x.1)

-- those of the lists of a parallel block, from list i on
abbrev pub fronts_from : ℕ → List FrontsOf → List (List Action) → Began → Fronts
fronts_from i [] lists began = []
fronts_from i (m ∷ ms) lists began = map (in_side i) (m (nth_list lists i) (λ c. began (i ∷ c))) ++ fronts_from (suc i) ms lists began

abbrev pub stage_fronts : Stage-F StageFronts FrontsOf → StageFronts
stage_fronts Stage-F.Ready list t began = if has_next list t then ([], Gate.Free) ∷ [] else []
stage_fronts (Stage-F.Delay due) list t began = ([], Gate.From due) ∷ []
stage_fronts (Stage-F.Wait timeout) list t began = ([], Gate.Behind (ask_in (last_action list t) timeout (flat t.scopes)) (began [])) ∷ []
stage_fronts (Stage-F.Sides ms) list t began = fronts_from 0 ms (lists_of (last_action list t)) began
stage_fronts (Stage-F.Ended e) list t began = []

abbrev pub fronts : Strand → FrontsOf
fronts = fold-Strand StageFronts FrontsOf stage_fronts (λ x list. x.stage list x.thread)

-- of a thread in a stage
abbrev pub fronts_on : Stage → StageFronts
fronts_on = fold-Stage StageFronts FrontsOf stage_fronts (λ x list. x.stage list x.thread)

-- of a run
abbrev pub fronts_of : Frames → Began → Fronts
fronts_of f began = fronts f.root f.script.value began

-- of a run at its begin
abbrev pub first_fronts : List Action → Fronts
first_fronts [] = []
first_fronts (a ∷ rest) = ([], Gate.Free) ∷ []

-- ---- the due of a branch's delay

abbrev pub Dues : Type 0
Dues = Branch → Option ℕ

abbrev pub due_side : List Dues → Branch → Option ℕ
due_side ms [] = None
due_side ms (i ∷ c) = option_map_or (λ m. m c) (slice_get ms i) None

abbrev pub stage_dues : Stage-F Dues Dues → Dues
stage_dues (Stage-F.Delay due) c = if is_here c then Some due else None
stage_dues (Stage-F.Sides ms) c = due_side ms c
stage_dues Stage-F.Ready c = None
stage_dues (Stage-F.Wait timeout) c = None
stage_dues (Stage-F.Ended e) c = None

abbrev pub dues : Strand → Dues
dues = fold-Strand Dues Dues stage_dues (λ x. x.stage)
