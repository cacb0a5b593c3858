-- A sound script has few lists.
use Rattle.std.proofs.Common.{◌≡◌, ◌∙◌, ap, suc, Bool, true, refl, List, [], ◌∷◌, length, map, sym, subst}
use Rattle.std.specs.Prelude.{◌&&◌, nat_lt}
use Rattle.std.specs.List.{list_all}
use Rattle.ha_config.specs.declared.config.Condition.{Condition}
use Rattle.ha_config.specs.declared.config.Action.{Action}
use Rattle.ha_config.specs.declared.config.ActionKind.{ActionKind}
use Rattle.ha_config.specs.declared.config.ActionKind.TheOpen.{Action-F, ActionKind-F}
use Rattle.ha_config.specs.declared.config.ActionKind.TheViews.{roll-ActionKind, roll-Action}
use Rattle.ha_config.specs.declared.config.ActionKind.TheFolds.{ind-Action, fold-ActionKind, fold-roll-ActionKind, fold-roll-Action, map-ActionKind, map-Action}
use Rattle.ha_config.specs.Sound.{all_true, are_sound_actions, are_sound_conditions, is_short, is_sound_action, is_sound_repeat, sound_kind_step}
use Rattle.script_step.specs.Few.{all_few, few_kind_step, has_few_lists, is_few_action}
use Rattle.script_step.proofs.SettledLemmas.{both}

abbrev sound_of_kind : ActionKind → Bool
sound_of_kind = fold-ActionKind Bool Bool sound_kind_step (λ a. a.kind)

abbrev few_of_kind : ActionKind → Bool
few_of_kind = fold-ActionKind Bool Bool few_kind_step (λ a. a.kind)

abbrev KindFew : ActionKind → Type 0
KindFew k = sound_of_kind k ≡ true → few_of_kind k ≡ true

abbrev ActionFew : Action → Type 0
ActionFew a = is_sound_action a ≡ true → is_few_action a ≡ true

abbrev SuchKind : Type 0
SuchKind = (k : ActionKind) × KindFew k

abbrev SuchAction : Type 0
SuchAction = (a : Action) × ActionFew a

abbrev firsts : ActionKind-F SuchKind SuchAction → ActionKind-F ActionKind Action
firsts y = map-ActionKind SuchKind SuchAction ActionKind Action (λ e. e.0) (λ e. e.0) y

abbrev sound_layer : ActionKind-F SuchKind SuchAction → ActionKind-F Bool Bool
sound_layer y = map-ActionKind ActionKind Action Bool Bool sound_of_kind is_sound_action (firsts y)

abbrev few_layer : ActionKind-F SuchKind SuchAction → ActionKind-F Bool Bool
few_layer y = map-ActionKind ActionKind Action Bool Bool few_of_kind is_few_action (firsts y)

pair : (a b : Bool) → a ≡ true → b ≡ true → (a && b) ≡ true
pair a b h k = rw (h, k) refl

each : (ys : List SuchAction) → list_all (λ b. b) (map is_sound_action (map (λ e. e.0) ys)) ≡ true → all_few (map is_few_action (map (λ e. e.0) ys)) ≡ true
each [] h = refl
each (y ∷ ys) h =
    let p = both (is_sound_action y.0) (list_all (λ b. b) (map is_sound_action (map (λ e. e.0) ys))) h in
    pair (is_few_action y.0) (all_few (map is_few_action (map (λ e. e.0) ys))) (y.1 p.0) (each ys p.1)

-- a list of soundnesses that all hold
members : (bs : List Bool) → all_true bs ≡ true → list_all (λ b. b) bs ≡ true
members bs h = (both (is_short bs) (list_all (λ b. b) bs) h).1

unfoldable pub options_in : ActionKind-F Bool Bool → List (List Condition × List Bool)
options_in (ActionKind-F.Choose options fallback) = options
options_in _ = []

unfoldable pub sound_options : List (List Condition × List SuchAction) → List (List Condition × List Bool)
sound_options options = options_in (sound_layer (ActionKind-F.Choose options []))

unfoldable pub few_options : List (List Condition × List SuchAction) → List (List Condition × List Bool)
few_options options = options_in (few_layer (ActionKind-F.Choose options []))

each-option : (options : List (List Condition × List SuchAction)) → list_all (λ x. are_sound_conditions x.0 && all_true x.1) (sound_options options) ≡ true
    → list_all (λ x. all_few x.1) (few_options options) ≡ true
unfolding sound_options few_options options_in
each-option [] h = refl
each-option (x ∷ xs) h =
    let sounds = map is_sound_action (map (λ e. e.0) x.1) in
    let p = both (are_sound_conditions x.0 && all_true sounds) (list_all (λ y. are_sound_conditions y.0 && all_true y.1) (sound_options xs)) h in
    pair (all_few (map is_few_action (map (λ e. e.0) x.1))) (list_all (λ y. all_few y.1) (few_options xs))
    (each x.1 (members sounds (both (are_sound_conditions x.0) (all_true sounds) p.0).1)) (each-option xs p.1)

unfoldable pub bools_in : ActionKind-F Bool Bool → List (List Bool)
bools_in (ActionKind-F.Parallel lists) = lists
bools_in _ = []

unfoldable pub sound_lists : List (List SuchAction) → List (List Bool)
sound_lists lists = bools_in (sound_layer (ActionKind-F.Parallel lists))

unfoldable pub few_lists : List (List SuchAction) → List (List Bool)
few_lists lists = bools_in (few_layer (ActionKind-F.Parallel lists))

each-list : (lists : List (List SuchAction)) → list_all all_true (sound_lists lists) ≡ true → list_all all_few (few_lists lists) ≡ true
unfolding sound_lists few_lists bools_in
each-list [] h = refl
each-list (x ∷ xs) h =
    let sounds = map is_sound_action (map (λ e. e.0) x) in
    let p = both (all_true sounds) (list_all all_true (sound_lists xs)) h in
    pair (all_few (map is_few_action (map (λ e. e.0) x))) (list_all all_few (few_lists xs)) (each x (members sounds p.0)) (each-list xs p.1)

many-sound : (lists : List (List SuchAction)) → length (sound_lists lists) ≡ length lists
unfolding sound_lists bools_in
many-sound [] = refl
many-sound (x ∷ xs) = ap suc (many-sound xs)

many-few : (lists : List (List SuchAction)) → length (few_lists lists) ≡ length lists
unfolding few_lists bools_in
many-few [] = refl
many-few (x ∷ xs) = ap suc (many-few xs)

layer : (y : ActionKind-F SuchKind SuchAction) → sound_kind_step (sound_layer y) ≡ true → few_kind_step (few_layer y) ≡ true
unfolding sound_options few_options options_in sound_lists few_lists bools_in
layer (ActionKind-F.Call service target fields) h = refl
layer (ActionKind-F.Delay form) h = refl
layer (ActionKind-F.WaitUntil test timeout go_on) h = refl
layer (ActionKind-F.WaitFor triggers timeout go_on) h = refl
layer (ActionKind-F.Choose options fallback) h =
    let sounds = map is_sound_action (map (λ e. e.0) fallback) in
    let p = both (is_short (sound_options options) && list_all (λ x. are_sound_conditions x.0 && all_true x.1) (sound_options options)) (all_true sounds) h in
    pair (list_all (λ x. all_few x.1) (few_options options)) (all_few (map is_few_action (map (λ e. e.0) fallback)))
    (each-option options (both (is_short (sound_options options)) (list_all (λ x. are_sound_conditions x.0 && all_true x.1) (sound_options options)) p.0).1)
    (each fallback (members sounds p.1))
layer (ActionKind-F.If tests yes' no') h =
    let ys = map is_sound_action (map (λ e. e.0) yes') in
    let ns = map is_sound_action (map (λ e. e.0) no') in
    let p = both (are_sound_conditions tests && all_true ys) (all_true ns) h in
    pair (all_few (map is_few_action (map (λ e. e.0) yes'))) (all_few (map is_few_action (map (λ e. e.0) no')))
    (each yes' (members ys (both (are_sound_conditions tests) (all_true ys) p.0).1)) (each no' (members ns p.1))
layer (ActionKind-F.Repeat kind body) h =
    let sounds = map is_sound_action (map (λ e. e.0) body) in
    each body (members sounds (both (is_sound_repeat kind) (all_true sounds) h).1)
layer (ActionKind-F.Parallel lists) h =
    let p = both (is_short (sound_lists lists)) (list_all all_true (sound_lists lists)) h in
    pair (nat_lt (length (few_lists lists)) 4_294_967_296) (list_all all_few (few_lists lists))
    ((λ i. nat_lt ((many-few lists ∙ sym (many-sound lists)) i) 4_294_967_296) ∙ p.0) (each-list lists p.1)
layer (ActionKind-F.Block body) h = each body (members (map is_sound_action (map (λ e. e.0) body)) h)
layer (ActionKind-F.Set pairs) h = refl
layer (ActionKind-F.Fire event fields) h = refl
layer ActionKind-F.Stop h = refl
layer (ActionKind-F.Test c) h = refl

rolled-kind : (y : ActionKind-F SuchKind SuchAction) → KindFew (roll-ActionKind (firsts y))
rolled-kind y h =
    fold-roll-ActionKind Bool Bool few_kind_step (λ a. a.kind) (firsts y)
    ∙ layer y (sym (fold-roll-ActionKind Bool Bool sound_kind_step (λ a. a.kind) (firsts y)) ∙ h)

rolled-action : (y : Action-F SuchKind SuchAction) → ActionFew (roll-Action (map-Action SuchKind SuchAction ActionKind Action (λ e. e.0) (λ e. e.0) y))
rolled-action y h =
    let x = map-Action SuchKind SuchAction ActionKind Action (λ e. e.0) (λ e. e.0) y in
    fold-roll-Action Bool Bool few_kind_step (λ a. a.kind) x ∙ y.kind.1 (sym (fold-roll-Action Bool Bool sound_kind_step (λ a. a.kind) x) ∙ h)

action-few : (a : Action) → ActionFew a
action-few = ind-Action KindFew ActionFew (λ x y is. subst (λ z. KindFew (roll-ActionKind z)) is (rolled-kind y)) (λ x y is. subst (λ z. ActionFew (roll-Action z)) is (rolled-action y))

list-few : (list : List Action) → list_all is_sound_action list ≡ true → has_few_lists list ≡ true
list-few [] h = refl
list-few (a ∷ rest) h =
    let p = both (is_sound_action a) (list_all is_sound_action rest) h in
    pair (is_few_action a) (has_few_lists rest) (action-few a p.0) (list-few rest p.1)

pub sound-few : (list : List Action) → are_sound_actions list ≡ true → has_few_lists list ≡ true
sound-few list h = list-few list (both (is_short list) (list_all is_sound_action list) h).1
