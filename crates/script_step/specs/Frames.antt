-- What the frames of a run stand for.
use Rattle.std.specs.Prelude.{◌≡◌, ℕ, ◌+◌, List, [], ◌∷◌, ◌++◌, Bool, Option, Some, option_map}
use Rattle.ha_config.specs.declared.config.Action.{Action}
use Rattle.ha_sight.specs.declared.item.Item.{Item}
use Rattle.ha_sight.specs.declared.waiting.WaitAsk.{WaitAsk}
use Rattle.ha_sight.specs.declared.waiting.WaitEnd.{WaitEnd}
use Rattle.ha_sight.specs.declared.steps.Progress.{Progress}
use Rattle.ha_config.specs.Words.{Pairs}
use Rattle.ha_sight.specs.Sight.{Sight}
use Rattle.ha_sight.specs.Scripts.{Branch, Spot, Outcome, Ask, gives, prefixed, whole}
use Rattle.script_step.specs.declared.frames.Frames.{Frames}
use Rattle.script_step.specs.Continuation.{Began, continuation, placed, may_step, asks}
use Rattle.script_step.specs.Sides.{end_of, progress_by}

-- what a run goes on with, where the pending wait of each branch began so
abbrev pub continues : Frames → Began → List Spot → Option Outcome
continues f began ps = continuation f.root f.script.value [] began ps

-- the branch may step at a moment, where its wait ended so
abbrev pub may : Frames → Branch → ℕ → Option WaitEnd → Bool
may f branch now end = may_step f.root f.script.value branch now end

-- what the pending wait of a branch asks
abbrev pub ask_of : Frames → Branch → Option Ask
ask_of f branch = asks f.root f.script.value branch

-- one step of the same script: see IsStep
pub record Steps (sight : Sight) (branch : Branch) (end : Option WaitEnd) (old : Frames) (item : Item) (new : Frames) : Type 0 where
  pub script : new.script.value ≡ old.script.value
  pub goes : (began : Began) (s : Spot) (rest : List Spot) → s.sight ≡ sight → s.branch ≡ branch
      → ((ask : Ask) → ask_of old branch ≡ Some ask → s.wait_end ask (began branch) ≡ end)
      → continues old began (s ∷ rest) ≡ gives item (continues new (placed branch s.place began) rest)

-- how far a run is
abbrev pub progress_of : Frames → Progress
progress_of f = progress_by (end_of f.root)

-- what is asked of the set of waits, from a step at that moment
abbrev pub asked_by : ℕ → Branch → ℕ → Ask → WaitAsk
asked_by serial branch now ask = record {
  serial = serial;
  branch = branch;
  test = ask.test;
  triggers = ask.triggers;
  due = option_map (λ d. now + d) ask.timeout;
  env = ask.env;
}

-- ---- a run with its places so far

-- the place of the last of them in a branch
abbrev pub began_by : Began → List Spot → Began
began_by before [] = before
began_by before (s ∷ ss) = began_by (placed s.branch s.place before) ss

abbrev pub begins : Began
begins c = 0

-- the frames stand for a script in an environment after these places, which gave these items
pub record Stands (f : Frames) (actions : List Action) (env : Pairs) (given : List Spot) (items : List Item) : Type 0 where
  pub script : f.script.value ≡ actions
  pub goes : (ps : List Spot) → whole actions env (given ++ ps) ≡ prefixed items (continues f (began_by begins given) ps)
