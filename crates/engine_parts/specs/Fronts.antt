-- What the frames of a run stand for, and the fronts of its branches, after its places so far.
use Rattle.std.specs.Prelude.{◌≡◌, ◌≤◌, List, [], ◌∷◌, ◌++◌, filter, is_some, Option, Some, None}
use Rattle.ha_config.specs.declared.config.Action.{Action}
use Rattle.ha_sight.specs.declared.item.Item.{Item}
use Rattle.ha_sight.specs.declared.waiting.WaitEnd.{WaitEnd}
use Rattle.ha_sight.specs.declared.steps.Progress.{Progress}
use Rattle.ha_sight.specs.declared.steps.StepOut.{StepOut}
use Rattle.ha_config.specs.Words.{Pairs, last_of}
use Rattle.ha_sight.specs.Scripts.{Branch, Spot, Status, Outcome, whole}
use Rattle.ha_sight.specs.Branches.{branches_of}
use Rattle.script_step.specs.Frames as run
use Rattle.script_step.specs.Frames.{began_by, begins}
use Rattle.script_step.specs.Gates.{Gate, Fronts, fronts_of, open_branches}
use Rattle.script_step.specs.declared.frames.Frames.{Frames}

-- the branches that are at a place of their own, each with its gate, after these places
abbrev pub fronts : Frames → List Spot → Fronts
fronts f ss = fronts_of f (began_by begins ss)

-- the frames stand for a script in an environment, after these places
pub record Stands (f : Frames) (actions : List Action) (env : Pairs) (ss : List Spot) : Type 0 where
  pub items : List Item
  pub stands : run.Stands f actions env ss items

-- these fronts tell, after these places of a script, which branches may take one more
abbrev pub AreFronts : List Action → Pairs → List Spot → Fronts → Type 0
AreFronts actions env ss fronts =
    (at : Branch → Spot) → ((b : Branch) → (at b).branch ≡ b)
    → filter (λ b. is_some (whole actions env (ss ++ (at b ∷ [])))) (branches_of actions) ≡ open_branches at fronts

abbrev pub progress_of : Status → Progress
progress_of Status.Open = Progress.Going
progress_of Status.Done = Progress.Done
progress_of Status.Stopped = Progress.Stopped
progress_of Status.Faulted = Progress.Faulted

-- ---- a step

-- the gate is open at this place, of whose wait this is the end
abbrev pub IsOpen : Option Gate → Spot → Option WaitEnd → Type 0
IsOpen None s wait = ⊥
IsOpen (Some Gate.Free) s wait = Unit {0}
IsOpen (Some (Gate.From due)) s wait = due ≤ s.sight.now
IsOpen (Some (Gate.Behind ask p)) s wait = (e : WaitEnd) × (wait ≡ Some e) × (s.wait_end ask p ≡ Some e)

-- what the script gives at one more place
pub record IsGiven (actions : List Action) (env : Pairs) (ss : List Spot) (s : Spot) (out : StepOut) : Type 0 where
  pub outcome : Outcome
  pub whole_is : whole actions env (ss ++ (s ∷ [])) ≡ Some outcome
  pub item : last_of outcome.items ≡ Some out.item
  pub progress : out.progress ≡ progress_of outcome.status
