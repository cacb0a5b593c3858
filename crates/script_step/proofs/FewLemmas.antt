-- The lists that stand in a script with few lists have few lists.
use Rattle.std.proofs.Common.{◌≡◌, ◌∙◌, ap, ℕ, zero, suc, ◌<◌, Bool, true, refl, List, [], ◌∷◌, length, map, sym, arith}
use Rattle.std.proofs.lemmas.Bool.Decides.{nat_tests}
use Rattle.std.specs.Prelude.{Option, Some, None, ◌&&◌, nat_lt, slice_get}
use Rattle.std.specs.List.{list_all}
use Rattle.std.specs.Option.{option_map_or}
use Rattle.ha_config.specs.declared.config.Condition.{Condition}
use Rattle.ha_config.specs.declared.config.Action.{Action}
use Rattle.ha_config.specs.declared.config.ActionKind.{ActionKind}
use Rattle.ha_config.specs.declared.config.ActionKind.TheOpen.{ActionKind-F}
use Rattle.ha_config.specs.declared.config.ActionKind.TheViews.{out-Action}
use Rattle.ha_config.specs.declared.config.ActionKind.TheFolds.{fold-ActionKind, fold_out-ActionKind, fold_out-Action, map-ActionKind}
use Rattle.script_step.specs.declared.thread.Frame.{Frame}
use Rattle.script_step.specs.declared.thread.Thread.{Thread}
use Rattle.script_step.specs.Few.{all_few, few_kind_step, has_few_lists, is_few_action}
use Rattle.script_step.specs.Parts.{before, inner_list, kind_of, list_in, lists_in, option_list, part_in}
use Rattle.script_step.specs.Continuation.{last_action, lists_of, nth_list, own_list}
use Rattle.script_step.proofs.SettledLemmas.{both}

-- ---- an action by its kind

abbrev few_of_kind : ActionKind → Bool
few_of_kind = fold-ActionKind Bool Bool few_kind_step (λ a. a.kind)

abbrev few_kind : ActionKind-F ActionKind Action → Bool
few_kind k = few_kind_step (map-ActionKind ActionKind Action Bool Bool few_of_kind is_few_action k)

pub few-out : (a : Action) → is_few_action a ≡ few_kind (kind_of a)
few-out a = fold_out-Action Bool Bool few_kind_step (λ x. x.kind) a ∙ fold_out-ActionKind Bool Bool few_kind_step (λ x. x.kind) (out-Action a).kind

all-mapped : (xs : List Action) → all_few (map is_few_action xs) ≡ has_few_lists xs
all-mapped [] = refl
all-mapped (x ∷ xs) = ap (λ b. is_few_action x && b) (all-mapped xs)

-- ---- the lists of a kind

unfoldable pub options_in : ActionKind-F Bool Bool → List (List Condition × List Bool)
options_in (ActionKind-F.Choose options fallback) = options
options_in _ = []

unfoldable pub mapped_options : List (List Condition × List Action) → List (List Condition × List Bool)
mapped_options options = options_in (map-ActionKind ActionKind Action Bool Bool few_of_kind is_few_action (ActionKind-F.Choose options []))

few-option : (options : List (List Condition × List Action)) (fallback : List Action) (k : ℕ)
    → list_all (λ x. all_few x.1) (mapped_options options) ≡ true → has_few_lists fallback ≡ true → has_few_lists (option_list options fallback k) ≡ true
unfolding mapped_options options_in
few-option [] fallback zero h f = f
few-option [] fallback (suc k) h f = f
few-option (x ∷ xs) fallback zero h f = sym (all-mapped x.1) ∙ (both (all_few (map is_few_action x.1)) (list_all (λ y. all_few y.1) (mapped_options xs)) h).0
few-option (x ∷ xs) fallback (suc k) h f = few-option xs fallback k (both (all_few (map is_few_action x.1)) (list_all (λ y. all_few y.1) (mapped_options xs)) h).1 f

unfoldable pub bools_in : ActionKind-F Bool Bool → List (List Bool)
bools_in (ActionKind-F.Parallel lists) = lists
bools_in _ = []

unfoldable pub mapped_lists : List (List Action) → List (List Bool)
mapped_lists lists = bools_in (map-ActionKind ActionKind Action Bool Bool few_of_kind is_few_action (ActionKind-F.Parallel lists))

few-nth : (lists : List (List Action)) (i : ℕ) → list_all all_few (mapped_lists lists) ≡ true → has_few_lists (nth_list lists i) ≡ true
unfolding mapped_lists bools_in
few-nth [] zero h = refl
few-nth [] (suc i) h = refl
few-nth (x ∷ xs) zero h = sym (all-mapped x) ∙ (both (all_few (map is_few_action x)) (list_all all_few (mapped_lists xs)) h).0
few-nth (x ∷ xs) (suc i) h = few-nth xs i (both (all_few (map is_few_action x)) (list_all all_few (mapped_lists xs)) h).1

lists-many : (lists : List (List Action)) → length (mapped_lists lists) ≡ length lists
unfolding mapped_lists bools_in
lists-many [] = refl
lists-many (x ∷ xs) = ap suc (lists-many xs)

few-part : (k : ActionKind-F ActionKind Action) (n : ℕ) → few_kind k ≡ true → has_few_lists (part_in k n) ≡ true
unfolding mapped_options options_in
few-part (ActionKind-F.Call service target fields) n h = refl
few-part (ActionKind-F.Delay form) n h = refl
few-part (ActionKind-F.WaitUntil test timeout go_on) n h = refl
few-part (ActionKind-F.WaitFor triggers timeout go_on) n h = refl
few-part (ActionKind-F.Choose options fallback) n h =
    let parts = both (list_all (λ x. all_few x.1) (mapped_options options)) (all_few (map is_few_action fallback)) h in
    few-option options fallback n parts.0 (sym (all-mapped fallback) ∙ parts.1)
few-part (ActionKind-F.If tests yes' no') zero h = sym (all-mapped yes') ∙ (both (all_few (map is_few_action yes')) (all_few (map is_few_action no')) h).0
few-part (ActionKind-F.If tests yes' no') (suc n) h = sym (all-mapped no') ∙ (both (all_few (map is_few_action yes')) (all_few (map is_few_action no')) h).1
few-part (ActionKind-F.Repeat kind body) n h = sym (all-mapped body) ∙ h
few-part (ActionKind-F.Parallel lists) n h = refl
few-part (ActionKind-F.Block body) n h = sym (all-mapped body) ∙ h
few-part (ActionKind-F.Set pairs) n h = refl
few-part (ActionKind-F.Fire event fields) n h = refl
few-part ActionKind-F.Stop n h = refl
few-part (ActionKind-F.Test c) n h = refl

small : (n m : ℕ) → nat_lt n m ≡ true → n < m
small n m h = grind (arith, nat_tests)

no-list : (i : ℕ) → has_few_lists (nth_list [] i) ≡ true
no-list zero = refl
no-list (suc i) = refl

-- the lists of a parallel block are few, and have few lists
few-sides : (k : ActionKind-F ActionKind Action) → few_kind k ≡ true → ((i : ℕ) → has_few_lists (nth_list (lists_in k) i) ≡ true) × (length (lists_in k) < 4_294_967_296)
unfolding mapped_lists bools_in
few-sides (ActionKind-F.Parallel lists) h =
    let parts = both (nat_lt (length (mapped_lists lists)) 4_294_967_296) (list_all all_few (mapped_lists lists)) h in
    ((λ i. few-nth lists i parts.1), omega (arith, lists-many lists, small (length (mapped_lists lists)) 4_294_967_296 parts.0))
few-sides (ActionKind-F.Call service target fields) h = (no-list, omega arith)
few-sides (ActionKind-F.Delay form) h = (no-list, omega arith)
few-sides (ActionKind-F.WaitUntil test timeout go_on) h = (no-list, omega arith)
few-sides (ActionKind-F.WaitFor triggers timeout go_on) h = (no-list, omega arith)
few-sides (ActionKind-F.Choose options fallback) h = (no-list, omega arith)
few-sides (ActionKind-F.If tests yes' no') h = (no-list, omega arith)
few-sides (ActionKind-F.Repeat kind body) h = (no-list, omega arith)
few-sides (ActionKind-F.Block body) h = (no-list, omega arith)
few-sides (ActionKind-F.Set pairs) h = (no-list, omega arith)
few-sides (ActionKind-F.Fire event fields) h = (no-list, omega arith)
few-sides ActionKind-F.Stop h = (no-list, omega arith)
few-sides (ActionKind-F.Test c) h = (no-list, omega arith)

-- ---- along the frames

few-get : (list : List Action) (n : ℕ) (a : Action) → has_few_lists list ≡ true → slice_get list n ≡ Some a → is_few_action a ≡ true
few-get [] zero a h e = absurd (cc)
few-get [] (suc n) a h e = absurd (cc)
few-get (x ∷ xs) zero a h e = (let z : x ≡ a = cc in ap is_few_action (sym z) ∙ (both (is_few_action x) (has_few_lists xs) h).0)
few-get (x ∷ xs) (suc n) a h e = few-get xs n a (both (is_few_action x) (has_few_lists xs) h).1 e

few-before : (list : List Action) (at : ℕ) (a : Action) → has_few_lists list ≡ true → before list at ≡ Some a → few_kind (kind_of a) ≡ true
few-before list zero a h e = absurd (cc)
few-before list (suc i) a h e = sym (few-out a) ∙ few-get list i a h e

few-inner : (list : List Action) (f : Frame) → has_few_lists list ≡ true → has_few_lists (inner_list list f) ≡ true
few-inner list f h = by (before list f.at) refl
  where
    by : (o : Option Action) → before list f.at ≡ o → has_few_lists (option_map_or (λ a. part_in (kind_of a) f.inside) o []) ≡ true
    by None e = refl
    by (Some a) e = few-part (kind_of a) f.inside (few-before list f.at a h e)

few-walk : (list : List Action) (fs : List Frame) → has_few_lists list ≡ true → has_few_lists (list_in list fs) ≡ true
few-walk list [] h = h
few-walk list (f ∷ fs) h = few-walk (inner_list list f) fs (few-inner list f h)

last-lists : (list : List Action) (t : Thread) → has_few_lists list ≡ true
    → ((i : ℕ) → has_few_lists (nth_list (lists_of (last_action list t)) i) ≡ true) × (length (lists_of (last_action list t)) < 4_294_967_296)
last-lists list t h = by (last_action list t) refl
  where
    by : (o : Option Action) → last_action list t ≡ o → ((i : ℕ) → has_few_lists (nth_list (lists_of o) i) ≡ true) × (length (lists_of o) < 4_294_967_296)
    by None e = (no-list, omega arith)
    by (Some a) e = few-sides (kind_of a) (few-before (own_list list t) t.here.at a (few-walk list t.outer h) e)

pub few-side : (list : List Action) (t : Thread) (i : ℕ) → has_few_lists list ≡ true → has_few_lists (nth_list (lists_of (last_action list t)) i) ≡ true
few-side list t i h = (last-lists list t h).0 i

pub few-lists : (list : List Action) (t : Thread) → has_few_lists list ≡ true → length (lists_of (last_action list t)) < 4_294_967_296
few-lists list t h = (last-lists list t h).1
