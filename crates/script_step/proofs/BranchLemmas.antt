-- The branches of a script ascend, and those of the lists in an action are among its own.
use Rattle.std.proofs.Common.{◌≡◌, ℕ, zero, suc, ◌+◌, ◌<◌, ◌⊎◌, inl, inr, true, List, [], ◌∷◌, length, map, refl, sym, ap, subst, ◌∙◌, arith}
use Rattle.std.specs.Prelude.{Option, Some, None, slice_get}
use Rattle.std.specs.Option.{option_map_or}
use Rattle.ha_config.specs.declared.config.Condition.{Condition}
use Rattle.ha_config.specs.declared.config.Action.{Action}
use Rattle.ha_config.specs.declared.config.ActionKind.{ActionKind}
use Rattle.ha_config.specs.declared.config.ActionKind.TheOpen.{Action-F, ActionKind-F}
use Rattle.ha_config.specs.declared.config.ActionKind.TheViews.{out-Action, roll-ActionKind, roll-Action}
use Rattle.ha_config.specs.declared.config.ActionKind.TheFolds.{ind-Action, fold-ActionKind, fold_out-ActionKind, fold_out-Action, fold-roll-ActionKind, fold-roll-Action, map-ActionKind, map-Action}
use Rattle.ha_sight.specs.Scripts.{Branch}
use Rattle.ha_config.specs.Words.{comes_before}
use Rattle.ha_sight.specs.Branches.{action_branches, branches_from, branches_of, kind_branches, union, union_all}
use Rattle.script_step.specs.declared.thread.Frame.{Frame}
use Rattle.script_step.specs.declared.thread.Thread.{Thread}
use Rattle.script_step.specs.Parts.{before, inner_list, kind_of, list_in, lists_in, option_list, part_in}
use Rattle.script_step.specs.Continuation.{last_action, lists_of, nth_list, own_list}
use Rattle.script_step.proofs.OrderLemmas.{Ascends, In, InSome, below-in, in-after, in-some, some-in, union-in, union-left, union-right, union_all-ascends}

abbrev branches_kind : ActionKind → List Branch
branches_kind = fold-ActionKind (List Branch) (List Branch) kind_branches (λ a. a.kind)

-- the branches of a kind
abbrev branches_in : ActionKind-F ActionKind Action → List Branch
branches_in k = kind_branches (map-ActionKind ActionKind Action (List Branch) (List Branch) branches_kind action_branches k)

abbrev pub list_branches : List Action → List Branch
list_branches list = union_all (map action_branches list)

branches-out : (a : Action) → action_branches a ≡ branches_in (kind_of a)
branches-out a = fold_out-Action (List Branch) (List Branch) kind_branches (λ x. x.kind) a ∙ fold_out-ActionKind (List Branch) (List Branch) kind_branches (λ x. x.kind) (out-Action a).kind

-- ---- those of a list in an action

unfoldable pub options_in : ActionKind-F (List Branch) (List Branch) → List (List Condition × List (List Branch))
options_in (ActionKind-F.Choose options fallback) = options
options_in _ = []

unfoldable pub mapped_options : List (List Condition × List Action) → List (List Condition × List (List Branch))
mapped_options options = options_in (map-ActionKind ActionKind Action (List Branch) (List Branch) branches_kind action_branches (ActionKind-F.Choose options []))

option-in : (options : List (List Condition × List Action)) (fallback : List Action) (k : ℕ) (c : Branch) → In c (list_branches (option_list options fallback k))
    → InSome c (map (λ x. union_all x.1) (mapped_options options)) ⊎ In c (list_branches fallback)
unfolding mapped_options options_in
option-in [] fallback zero c h = inr h
option-in [] fallback (suc k) c h = inr h
option-in (x ∷ xs) fallback zero c h = inl (inl h)
option-in (x ∷ xs) fallback (suc k) c h = down (option-in xs fallback k c h)
  where
    down : InSome c (map (λ y. union_all y.1) (mapped_options xs)) ⊎ In c (list_branches fallback)
        → (In c (union_all (map action_branches x.1)) ⊎ InSome c (map (λ y. union_all y.1) (mapped_options xs))) ⊎ In c (list_branches fallback)
    down (inl j) = inl (inr j)
    down (inr j) = inr j

unfoldable pub several_in : ActionKind-F (List Branch) (List Branch) → List (List (List Branch))
several_in (ActionKind-F.Parallel lists) = lists
several_in _ = []

unfoldable pub mapped_lists : List (List Action) → List (List (List Branch))
mapped_lists lists = several_in (map-ActionKind ActionKind Action (List Branch) (List Branch) branches_kind action_branches (ActionKind-F.Parallel lists))

side-from : (lists : List (List Action)) (k i : ℕ) (d : Branch) → i < length lists → In d (branches_of (nth_list lists i)) → In ((k + i) ∷ d) (branches_from k (mapped_lists lists))
unfolding mapped_lists several_in
side-from [] k i d lt h = absurd (omega (arith, lt))
side-from (l ∷ ls) k zero d lt h =
    let z : k + 0 ≡ k = omega arith in
    let own = (k ∷ []) ∷ map (λ b. k ∷ b) (list_branches l) in
    subst (λ (n : ℕ). In (n ∷ d) (union own (branches_from (suc k) (mapped_lists ls)))) (sym z) (union-left own (branches_from (suc k) (mapped_lists ls)) (k ∷ d) (here h))
  where
    here : In d (branches_of l) → In (k ∷ d) ((k ∷ []) ∷ map (λ b. k ∷ b) (list_branches l))
    here (inl e) = inl (ap (λ b. k ∷ b) e)
    here (inr j) = inr (below-in k d (list_branches l) j)
side-from (l ∷ ls) k (suc i) d lt h =
    let z : suc k + i ≡ k + suc i = omega arith in
    let own = (k ∷ []) ∷ map (λ b. k ∷ b) (list_branches l) in
    union-right own (branches_from (suc k) (mapped_lists ls)) ((k + suc i) ∷ d)
    (subst (λ (n : ℕ). In (n ∷ d) (branches_from (suc k) (mapped_lists ls))) z (side-from ls (suc k) i d (omega (arith, lt)) h))

part-in : (k : ActionKind-F ActionKind Action) (n : ℕ) (c : Branch) → In c (list_branches (part_in k n)) → In c (branches_in k)
unfolding mapped_options options_in
part-in (ActionKind-F.Call service target fields) n c h = absurd h
part-in (ActionKind-F.Delay form) n c h = absurd h
part-in (ActionKind-F.WaitUntil test timeout go_on) n c h = absurd h
part-in (ActionKind-F.WaitFor triggers timeout go_on) n c h = absurd h
part-in (ActionKind-F.Choose options fallback) n c h =
    by (option-in options fallback n c h)
  where
    by : InSome c (map (λ x. union_all x.1) (mapped_options options)) ⊎ In c (list_branches fallback)
        → In c (union (union_all (map (λ x. union_all x.1) (mapped_options options))) (list_branches fallback))
    by (inl j) = union-left (union_all (map (λ x. union_all x.1) (mapped_options options))) (list_branches fallback) c (some-in (map (λ x. union_all x.1) (mapped_options options)) c j)
    by (inr j) = union-right (union_all (map (λ x. union_all x.1) (mapped_options options))) (list_branches fallback) c j
part-in (ActionKind-F.If tests yes' no') zero c h = union-left (list_branches yes') (list_branches no') c h
part-in (ActionKind-F.If tests yes' no') (suc n) c h = union-right (list_branches yes') (list_branches no') c h
part-in (ActionKind-F.Repeat kind body) n c h = h
part-in (ActionKind-F.Parallel lists) n c h = absurd h
part-in (ActionKind-F.Block body) n c h = h
part-in (ActionKind-F.Set pairs) n c h = absurd h
part-in (ActionKind-F.Fire event fields) n c h = absurd h
part-in ActionKind-F.Stop n c h = absurd h
part-in (ActionKind-F.Test t) n c h = absurd h

side-in : (k : ActionKind-F ActionKind Action) (i : ℕ) (d : Branch) → i < length (lists_in k) → In d (branches_of (nth_list (lists_in k) i)) → In (i ∷ d) (branches_in k)
unfolding mapped_lists several_in
side-in (ActionKind-F.Parallel lists) i d lt h = (let z : 0 + i ≡ i = omega arith in subst (λ (n : ℕ). In (n ∷ d) (branches_from 0 (mapped_lists lists))) z (side-from lists 0 i d lt h))
side-in (ActionKind-F.Call service target fields) i d lt h = absurd (omega (arith, lt))
side-in (ActionKind-F.Delay form) i d lt h = absurd (omega (arith, lt))
side-in (ActionKind-F.WaitUntil test timeout go_on) i d lt h = absurd (omega (arith, lt))
side-in (ActionKind-F.WaitFor triggers timeout go_on) i d lt h = absurd (omega (arith, lt))
side-in (ActionKind-F.Choose options fallback) i d lt h = absurd (omega (arith, lt))
side-in (ActionKind-F.If tests yes' no') i d lt h = absurd (omega (arith, lt))
side-in (ActionKind-F.Repeat kind body) i d lt h = absurd (omega (arith, lt))
side-in (ActionKind-F.Block body) i d lt h = absurd (omega (arith, lt))
side-in (ActionKind-F.Set pairs) i d lt h = absurd (omega (arith, lt))
side-in (ActionKind-F.Fire event fields) i d lt h = absurd (omega (arith, lt))
side-in ActionKind-F.Stop i d lt h = absurd (omega (arith, lt))
side-in (ActionKind-F.Test t) i d lt h = absurd (omega (arith, lt))

-- ---- those of an action in a list, along the frames

own-some : (list : List Action) (i : ℕ) (a : Action) (c : Branch) → slice_get list i ≡ Some a → In c (action_branches a) → InSome c (map action_branches list)
own-some [] zero a c e h = absurd (cc)
own-some [] (suc i) a c e h = absurd (cc)
own-some (x ∷ xs) zero a c e h = (let z : x ≡ a = cc in inl (subst (λ (y : Action). In c (action_branches y)) (sym z) h))
own-some (x ∷ xs) (suc i) a c e h = inr (own-some xs i a c e h)

own-in : (list : List Action) (at : ℕ) (a : Action) (c : Branch) → before list at ≡ Some a → In c (branches_in (kind_of a)) → In c (list_branches list)
own-in list zero a c e h = absurd (cc)
own-in list (suc i) a c e h = some-in (map action_branches list) c (own-some list i a c e (subst (λ (bs : List Branch). In c bs) (sym (branches-out a)) h))

inner-in : (list : List Action) (f : Frame) (c : Branch) → In c (list_branches (inner_list list f)) → In c (list_branches list)
inner-in list f c h = by (before list f.at) refl h
  where
    by : (o : Option Action) → before list f.at ≡ o → In c (list_branches (option_map_or (λ a. part_in (kind_of a) f.inside) o [])) → In c (list_branches list)
    by None e k = absurd k
    by (Some a) e k = own-in list f.at a c e (part-in (kind_of a) f.inside c k)

walk-in : (list : List Action) (fs : List Frame) (c : Branch) → In c (list_branches (list_in list fs)) → In c (list_branches list)
walk-in list [] c h = h
walk-in list (f ∷ fs) c h = inner-in list f c (walk-in (inner_list list f) fs c h)

-- a branch in a list of the parallel block that a thread's last action is
pub last-in : (list : List Action) (t : Thread) (i : ℕ) (d : Branch) → i < length (lists_of (last_action list t)) → In d (branches_of (nth_list (lists_of (last_action list t)) i))
    → In (i ∷ d) (branches_of list)
last-in list t i d lt h = by (last_action list t) refl lt h
  where
    by : (o : Option Action) → last_action list t ≡ o → i < length (lists_of o) → In d (branches_of (nth_list (lists_of o) i)) → In (i ∷ d) (branches_of list)
    by None e l k = absurd (omega (arith, l))
    by (Some a) e l k = inr (walk-in list t.outer (i ∷ d) (own-in (own_list list t) t.here.at a (i ∷ d) e (side-in (kind_of a) i d l k)))

-- ---- no branch below an action is the outer one

abbrev Below : List Branch → Type 0
Below bs = (c : Branch) → In c bs → comes_before [] c ≡ true

map-below : (i : ℕ) (xs : List Branch) → Below (map (λ b. i ∷ b) xs)
map-below i [] c h = absurd h
map-below i (x ∷ xs) c (inl e) = ap (comes_before []) (sym e)
map-below i (x ∷ xs) c (inr k) = map-below i xs c k

from-below : (i : ℕ) (ls : List (List (List Branch))) → Below (branches_from i ls)
from-below i [] c h = absurd h
from-below i (l ∷ ls) c h = by (union-in ((i ∷ []) ∷ map (λ b. i ∷ b) (union_all l)) (branches_from (suc i) ls) c h) (from-below (suc i) ls c)
  where
    own : In c ((i ∷ []) ∷ map (λ b. i ∷ b) (union_all l)) → comes_before [] c ≡ true
    own (inl e) = ap (comes_before []) (sym e)
    own (inr k) = map-below i (union_all l) c k

    by : In c ((i ∷ []) ∷ map (λ b. i ∷ b) (union_all l)) ⊎ In c (branches_from (suc i) ls) → (In c (branches_from (suc i) ls) → comes_before [] c ≡ true) → comes_before [] c ≡ true
    by (inl k) more = own k
    by (inr k) more = more k

union-below : (bs cs : List Branch) → Below bs → Below cs → Below (union bs cs)
union-below bs cs f g c h = by (union-in bs cs c h)
  where
    by : In c bs ⊎ In c cs → comes_before [] c ≡ true
    by (inl k) = f c k
    by (inr k) = g c k

abbrev KindBelow : ActionKind → Type 0
KindBelow k = Below (branches_kind k)

abbrev ActionBelow : Action → Type 0
ActionBelow a = Below (action_branches a)

abbrev SuchKind : Type 0
SuchKind = (k : ActionKind) × KindBelow k

abbrev SuchAction : Type 0
SuchAction = (a : Action) × ActionBelow a

some-below : (ys : List SuchAction) (c : Branch) → InSome c (map action_branches (map (λ e. e.0) ys)) → comes_before [] c ≡ true
some-below [] c h = absurd h
some-below (y ∷ ys) c (inl k) = y.1 c k
some-below (y ∷ ys) c (inr k) = some-below ys c k

list-below : (ys : List SuchAction) → Below (union_all (map action_branches (map (λ e. e.0) ys)))
list-below ys c h = some-below ys c (in-some (map action_branches (map (λ e. e.0) ys)) c h)

unfoldable pub such_options : List (List Condition × List SuchAction) → List (List Condition × List (List Branch))
such_options options =
    options_in (map-ActionKind ActionKind Action (List Branch) (List Branch) branches_kind action_branches
    (map-ActionKind SuchKind SuchAction ActionKind Action (λ e. e.0) (λ e. e.0) (ActionKind-F.Choose options [])))

unfoldable pub such_lists : List (List SuchAction) → List (List (List Branch))
such_lists lists =
    several_in (map-ActionKind ActionKind Action (List Branch) (List Branch) branches_kind action_branches
    (map-ActionKind SuchKind SuchAction ActionKind Action (λ e. e.0) (λ e. e.0) (ActionKind-F.Parallel lists)))

options-below : (options : List (List Condition × List SuchAction)) (c : Branch) → InSome c (map (λ x. union_all x.1) (such_options options)) → comes_before [] c ≡ true
unfolding such_options options_in
options-below [] c h = absurd h
options-below (x ∷ xs) c (inl k) = list-below x.1 c k
options-below (x ∷ xs) c (inr k) = options-below xs c k

layer-below : (y : ActionKind-F SuchKind SuchAction)
    → Below (branches_in (map-ActionKind SuchKind SuchAction ActionKind Action (λ e. e.0) (λ e. e.0) y))
unfolding such_options options_in such_lists several_in
layer-below (ActionKind-F.Call service target fields) c h = absurd h
layer-below (ActionKind-F.Delay form) c h = absurd h
layer-below (ActionKind-F.WaitUntil test timeout go_on) c h = absurd h
layer-below (ActionKind-F.WaitFor triggers timeout go_on) c h = absurd h
layer-below (ActionKind-F.Choose options fallback) c h =
    union-below (union_all (map (λ x. union_all x.1) (such_options options))) (union_all (map action_branches (map (λ e. e.0) fallback)))
    (λ d k. options-below options d (in-some (map (λ x. union_all x.1) (such_options options)) d k)) (list-below fallback) c h
layer-below (ActionKind-F.If tests yes' no') c h =
    union-below (union_all (map action_branches (map (λ e. e.0) yes'))) (union_all (map action_branches (map (λ e. e.0) no'))) (list-below yes') (list-below no') c h
layer-below (ActionKind-F.Repeat kind body) c h = list-below body c h
layer-below (ActionKind-F.Parallel lists) c h = from-below 0 (such_lists lists) c h
layer-below (ActionKind-F.Block body) c h = list-below body c h
layer-below (ActionKind-F.Set pairs) c h = absurd h
layer-below (ActionKind-F.Fire event fields) c h = absurd h
layer-below ActionKind-F.Stop c h = absurd h
layer-below (ActionKind-F.Test t) c h = absurd h

rolled-kind : (y : ActionKind-F SuchKind SuchAction) → KindBelow (roll-ActionKind (map-ActionKind SuchKind SuchAction ActionKind Action (λ e. e.0) (λ e. e.0) y))
rolled-kind y c h =
    layer-below y c
    (subst (λ (bs : List Branch). In c bs)
    (fold-roll-ActionKind (List Branch) (List Branch) kind_branches (λ a. a.kind) (map-ActionKind SuchKind SuchAction ActionKind Action (λ e. e.0) (λ e. e.0) y)) h)

rolled-action : (y : Action-F SuchKind SuchAction) → ActionBelow (roll-Action (map-Action SuchKind SuchAction ActionKind Action (λ e. e.0) (λ e. e.0) y))
rolled-action y c h =
    y.kind.1 c
    (subst (λ (bs : List Branch). In c bs)
    (fold-roll-Action (List Branch) (List Branch) kind_branches (λ a. a.kind) (map-Action SuchKind SuchAction ActionKind Action (λ e. e.0) (λ e. e.0) y)) h)

action-below : (a : Action) → ActionBelow a
action-below = ind-Action KindBelow ActionBelow (λ x y is. subst (λ z. KindBelow (roll-ActionKind z)) is (rolled-kind y)) (λ x y is. subst (λ z. ActionBelow (roll-Action z)) is (rolled-action y))

actions-below : (list : List Action) (c : Branch) → InSome c (map action_branches list) → comes_before [] c ≡ true
actions-below [] c h = absurd h
actions-below (a ∷ rest) c (inl k) = action-below a c k
actions-below (a ∷ rest) c (inr k) = actions-below rest c k

-- the branches of a script ascend
pub branches-ascend : (list : List Action) → Ascends (branches_of list)
branches-ascend list = (in-after [] (list_branches list) (λ c k. actions-below list c (in-some (map action_branches list) c k)), union_all-ascends (map action_branches list))
