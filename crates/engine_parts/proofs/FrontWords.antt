-- The fronts of frames after the places of a run.
use Rattle.std.proofs.Common.{◌≡◌, List, [], ◌∷◌, ◌++◌}
use Rattle.std.specs.Prelude.{is_some}
use Rattle.ha_config.specs.declared.config.Action.{Action}
use Rattle.ha_config.specs.Words.{Pairs}
use Rattle.ha_sight.specs.Scripts.{Spot, whole}
use Rattle.script_step.specs.Gates.{gate_at, lets}
use Rattle.script_step.specs.declared.frames.Frames.{Frames}
use Rattle.script_step.proofs.GateLemmas.{gate-stands}
use Rattle.script_step.proofs.ListedLemmas as run
use Rattle.engine_parts.specs.Fronts.{AreFronts, Stands, fronts}

-- LAW: the fronts of frames are those of the script
pub fronts-are : (f : Frames) (actions : List Action) (env : Pairs) (ss : List Spot) → Stands f actions env ss → AreFronts actions env ss (fronts f ss)
fronts-are f actions env ss h = λ at own. run.fronts-are f actions env ss h.items at own h.stands

-- LAW: a branch may take one more place exactly where it is at a place of its own whose gate is open there
pub gate-is : (f : Frames) (actions : List Action) (env : Pairs) (ss : List Spot) → Stands f actions env ss → (s : Spot)
    → is_some (whole actions env (ss ++ (s ∷ []))) ≡ lets (gate_at s.branch (fronts f ss)) s
gate-is f actions env ss h s = gate-stands f actions env ss h.items s h.stands
