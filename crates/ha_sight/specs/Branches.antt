-- The branches that a script has.
use Rattle.std.specs.Prelude.{ℕ, suc, List, [], ◌∷◌, map, if◌then◌else◌}
use Rattle.ha_config.specs.declared.config.Action.{Action}
use Rattle.ha_config.specs.declared.config.ActionKind.TheOpen.{ActionKind-F}
use Rattle.ha_config.specs.declared.config.ActionKind.TheFolds.{fold-Action}
use Rattle.ha_sight.specs.Scripts.{Branch}
use Rattle.ha_config.specs.Words.{comes_before}

-- a branch among others in order, once
abbrev pub among : Branch → List Branch → List Branch
among b [] = b ∷ []
among b (c ∷ cs) = if comes_before b c then b ∷ c ∷ cs else (if comes_before c b then c ∷ among b cs else c ∷ cs)

abbrev pub union : List Branch → List Branch → List Branch
union [] cs = cs
union (b ∷ bs) cs = among b (union bs cs)

abbrev pub union_all : List (List Branch) → List Branch
union_all [] = []
union_all (bs ∷ rest) = union bs (union_all rest)

-- the branches of the lists of a parallel block
abbrev pub branches_from : ℕ → List (List (List Branch)) → List Branch
branches_from i [] = []
branches_from i (l ∷ ls) = union ((i ∷ []) ∷ map (λ b. i ∷ b) (union_all l)) (branches_from (suc i) ls)

-- below one action: the branches of the lists in it
abbrev pub kind_branches : ActionKind-F (List Branch) (List Branch) → List Branch
kind_branches (ActionKind-F.Choose options fallback) = union (union_all (map (λ x. union_all x.1) options)) (union_all fallback)
kind_branches (ActionKind-F.If tests yes' no') = union (union_all yes') (union_all no')
kind_branches (ActionKind-F.Repeat kind body) = union_all body
kind_branches (ActionKind-F.Block body) = union_all body
kind_branches (ActionKind-F.Parallel lists) = branches_from 0 lists
kind_branches (ActionKind-F.Call service target fields) = []
kind_branches (ActionKind-F.Delay form) = []
kind_branches (ActionKind-F.WaitUntil test timeout go_on) = []
kind_branches (ActionKind-F.WaitFor triggers timeout go_on) = []
kind_branches (ActionKind-F.Set pairs) = []
kind_branches (ActionKind-F.Fire event fields) = []
kind_branches ActionKind-F.Stop = []
kind_branches (ActionKind-F.Test c) = []

abbrev pub action_branches : Action → List Branch
action_branches = fold-Action (List Branch) (List Branch) kind_branches (λ a. a.kind)

-- all branches of a script, in order
abbrev pub branches_of : List Action → List Branch
branches_of actions = [] ∷ union_all (map action_branches actions)
