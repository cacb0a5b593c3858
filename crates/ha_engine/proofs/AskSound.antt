-- What a sound script asks of the waits is sound.
use Rattle.std.proofs.Common.{◌≡◌, ◌∙◌, ap, ℕ, zero, suc, Bool, true, refl, List, [], ◌∷◌, map, sym}
use Rattle.std.specs.Prelude.{Option, Some, None, ◌&&◌, slice_get}
use Rattle.std.specs.List.{list_all}
use Rattle.std.specs.Option.{option_map_or}
use Rattle.ha_config.specs.declared.config.Condition.{Condition}
use Rattle.ha_config.specs.declared.config.Action.{Action}
use Rattle.ha_config.specs.declared.config.ActionKind.{ActionKind}
use Rattle.ha_config.specs.declared.config.ActionKind.TheOpen.{ActionKind-F}
use Rattle.ha_config.specs.declared.config.ActionKind.TheViews.{out-Action}
use Rattle.ha_config.specs.declared.config.ActionKind.TheFolds.{fold-ActionKind, fold_out-ActionKind, fold_out-Action, map-ActionKind}
use Rattle.ha_config.specs.Words.{Pairs}
use Rattle.ha_sight.specs.Scripts.{Ask, Branch, flat}
use Rattle.ha_config.specs.Sound.{all_true, are_sound_actions, are_sound_conditions, are_sound_triggers, if_there, is_short, is_sound_action, is_sound_repeat, is_sound_span, sound_kind_step}
use Rattle.script_step.specs.declared.thread.Frame.{Frame}
use Rattle.script_step.specs.declared.thread.Thread.{Thread}
use Rattle.script_step.specs.declared.strand.Strand.{Strand}
use Rattle.script_step.specs.declared.strand.Stage.{Stage}
use Rattle.script_step.specs.declared.strand.Stage.TheOpen.{Stage-F}
use Rattle.script_step.specs.declared.strand.Stage.TheViews.{out-Stage, out-Strand}
use Rattle.script_step.specs.declared.strand.Stage.TheFolds.{map-Stage}
use Rattle.script_step.specs.Parts.{before, inner_list, kind_of, list_in, lists_in, option_list, part_in}
use Rattle.script_step.specs.Continuation.{Asks, StageAsks, ask_in, asks, last_action, lists_of, nth_list, own_list, stage_asks, triggers_in}
use Rattle.script_step.proofs.SettledLemmas.{both}
use Rattle.script_step.proofs.StepLemmas.{ask_stage, asks-out, get-map, get-none}

-- each action of a list is sound
abbrev AllSound : List Action → Type 0
AllSound list = list_all is_sound_action list ≡ true

-- ---- an action by its kind

abbrev sound_of_kind : ActionKind → Bool
sound_of_kind = fold-ActionKind Bool Bool sound_kind_step (λ a. a.kind)

abbrev sound_kind : ActionKind-F ActionKind Action → Bool
sound_kind k = sound_kind_step (map-ActionKind ActionKind Action Bool Bool sound_of_kind is_sound_action k)

sound-out : (a : Action) → is_sound_action a ≡ sound_kind (kind_of a)
sound-out a = fold_out-Action Bool Bool sound_kind_step (λ x. x.kind) a ∙ fold_out-ActionKind Bool Bool sound_kind_step (λ x. x.kind) (out-Action a).kind

all-mapped : (xs : List Action) → list_all (λ b. b) (map is_sound_action xs) ≡ list_all is_sound_action xs
all-mapped [] = refl
all-mapped (x ∷ xs) = ap (λ b. is_sound_action x && b) (all-mapped xs)

-- a list of soundnesses that all hold
members : (xs : List Action) → all_true (map is_sound_action xs) ≡ true → AllSound xs
members xs h = sym (all-mapped xs) ∙ (both (is_short (map is_sound_action xs)) (list_all (λ b. b) (map is_sound_action xs)) h).1

-- ---- the lists of a kind

unfoldable pub options_in : ActionKind-F Bool Bool → List (List Condition × List Bool)
options_in (ActionKind-F.Choose options fallback) = options
options_in _ = []

unfoldable pub mapped_options : List (List Condition × List Action) → List (List Condition × List Bool)
mapped_options options = options_in (map-ActionKind ActionKind Action Bool Bool sound_of_kind is_sound_action (ActionKind-F.Choose options []))

sound-option : (options : List (List Condition × List Action)) (fallback : List Action) (k : ℕ)
    → list_all (λ x. are_sound_conditions x.0 && all_true x.1) (mapped_options options) ≡ true → AllSound fallback → AllSound (option_list options fallback k)
unfolding mapped_options options_in
sound-option [] fallback zero h f = f
sound-option [] fallback (suc k) h f = f
sound-option (x ∷ xs) fallback zero h f =
    members x.1
    (both (are_sound_conditions x.0) (all_true (map is_sound_action x.1))
    (both (are_sound_conditions x.0 && all_true (map is_sound_action x.1)) (list_all (λ y. are_sound_conditions y.0 && all_true y.1) (mapped_options xs)) h).0).1
sound-option (x ∷ xs) fallback (suc k) h f =
    sound-option xs fallback k (both (are_sound_conditions x.0 && all_true (map is_sound_action x.1)) (list_all (λ y. are_sound_conditions y.0 && all_true y.1) (mapped_options xs)) h).1 f

unfoldable pub bools_in : ActionKind-F Bool Bool → List (List Bool)
bools_in (ActionKind-F.Parallel lists) = lists
bools_in _ = []

unfoldable pub mapped_lists : List (List Action) → List (List Bool)
mapped_lists lists = bools_in (map-ActionKind ActionKind Action Bool Bool sound_of_kind is_sound_action (ActionKind-F.Parallel lists))

sound-nth : (lists : List (List Action)) (i : ℕ) → list_all all_true (mapped_lists lists) ≡ true → AllSound (nth_list lists i)
unfolding mapped_lists bools_in
sound-nth [] zero h = refl
sound-nth [] (suc i) h = refl
sound-nth (x ∷ xs) zero h = members x (both (all_true (map is_sound_action x)) (list_all all_true (mapped_lists xs)) h).0
sound-nth (x ∷ xs) (suc i) h = sound-nth xs i (both (all_true (map is_sound_action x)) (list_all all_true (mapped_lists xs)) h).1

sound-part : (k : ActionKind-F ActionKind Action) (n : ℕ) → sound_kind k ≡ true → AllSound (part_in k n)
unfolding mapped_options options_in
sound-part (ActionKind-F.Call service target fields) n h = refl
sound-part (ActionKind-F.Delay form) n h = refl
sound-part (ActionKind-F.WaitUntil test timeout go_on) n h = refl
sound-part (ActionKind-F.WaitFor triggers timeout go_on) n h = refl
sound-part (ActionKind-F.Choose options fallback) n h =
    let tested = list_all (λ x. are_sound_conditions x.0 && all_true x.1) (mapped_options options) in
    let parts = both (is_short (mapped_options options) && tested) (all_true (map is_sound_action fallback)) h in
    sound-option options fallback n (both (is_short (mapped_options options)) tested parts.0).1 (members fallback parts.1)
sound-part (ActionKind-F.If tests yes' no') zero h =
    members yes' (both (are_sound_conditions tests) (all_true (map is_sound_action yes')) (both (are_sound_conditions tests && all_true (map is_sound_action yes')) (all_true (map is_sound_action no')) h).0).1
sound-part (ActionKind-F.If tests yes' no') (suc n) h = members no' (both (are_sound_conditions tests && all_true (map is_sound_action yes')) (all_true (map is_sound_action no')) h).1
sound-part (ActionKind-F.Repeat kind body) n h = members body (both (is_sound_repeat kind) (all_true (map is_sound_action body)) h).1
sound-part (ActionKind-F.Parallel lists) n h = refl
sound-part (ActionKind-F.Block body) n h = members body h
sound-part (ActionKind-F.Set pairs) n h = refl
sound-part (ActionKind-F.Fire event fields) n h = refl
sound-part ActionKind-F.Stop n h = refl
sound-part (ActionKind-F.Test c) n h = refl

no-list : (i : ℕ) → AllSound (nth_list [] i)
no-list zero = refl
no-list (suc i) = refl

sound-sides : (k : ActionKind-F ActionKind Action) (i : ℕ) → sound_kind k ≡ true → AllSound (nth_list (lists_in k) i)
unfolding mapped_lists bools_in
sound-sides (ActionKind-F.Parallel lists) i h = sound-nth lists i (both (is_short (mapped_lists lists)) (list_all all_true (mapped_lists lists)) h).1
sound-sides (ActionKind-F.Call service target fields) i h = no-list i
sound-sides (ActionKind-F.Delay form) i h = no-list i
sound-sides (ActionKind-F.WaitUntil test timeout go_on) i h = no-list i
sound-sides (ActionKind-F.WaitFor triggers timeout go_on) i h = no-list i
sound-sides (ActionKind-F.Choose options fallback) i h = no-list i
sound-sides (ActionKind-F.If tests yes' no') i h = no-list i
sound-sides (ActionKind-F.Repeat kind body) i h = no-list i
sound-sides (ActionKind-F.Block body) i h = no-list i
sound-sides (ActionKind-F.Set pairs) i h = no-list i
sound-sides (ActionKind-F.Fire event fields) i h = no-list i
sound-sides ActionKind-F.Stop i h = no-list i
sound-sides (ActionKind-F.Test c) i h = no-list i

-- the triggers of an action are sound
sound-triggers : (k : ActionKind-F ActionKind Action) → sound_kind k ≡ true → are_sound_triggers (triggers_in k) ≡ true
sound-triggers (ActionKind-F.WaitFor triggers timeout go_on) h = (both (are_sound_triggers triggers) (if_there is_sound_span timeout) h).0
sound-triggers (ActionKind-F.Call service target fields) h = refl
sound-triggers (ActionKind-F.Delay form) h = refl
sound-triggers (ActionKind-F.WaitUntil test timeout go_on) h = refl
sound-triggers (ActionKind-F.Choose options fallback) h = refl
sound-triggers (ActionKind-F.If tests yes' no') h = refl
sound-triggers (ActionKind-F.Repeat kind body) h = refl
sound-triggers (ActionKind-F.Parallel lists) h = refl
sound-triggers (ActionKind-F.Block body) h = refl
sound-triggers (ActionKind-F.Set pairs) h = refl
sound-triggers (ActionKind-F.Fire event fields) h = refl
sound-triggers ActionKind-F.Stop h = refl
sound-triggers (ActionKind-F.Test c) h = refl

-- ---- along the frames

sound-get : (list : List Action) (n : ℕ) (a : Action) → AllSound list → slice_get list n ≡ Some a → is_sound_action a ≡ true
sound-get [] zero a h e = absurd (let bad : ◌≡◌ {A = Option Action} None (Some a) = e in cc)
sound-get [] (suc n) a h e = absurd (let bad : ◌≡◌ {A = Option Action} None (Some a) = e in cc)
sound-get (x ∷ xs) zero a h e = (let z : x ≡ a = cc in ap is_sound_action (sym z) ∙ (both (is_sound_action x) (list_all is_sound_action xs) h).0)
sound-get (x ∷ xs) (suc n) a h e = sound-get xs n a (both (is_sound_action x) (list_all is_sound_action xs) h).1 e

sound-before : (list : List Action) (at : ℕ) (a : Action) → AllSound list → before list at ≡ Some a → sound_kind (kind_of a) ≡ true
sound-before list zero a h e = absurd (let bad : ◌≡◌ {A = Option Action} None (Some a) = e in cc)
sound-before list (suc i) a h e = sym (sound-out a) ∙ sound-get list i a h e

sound-inner : (list : List Action) (f : Frame) → AllSound list → AllSound (inner_list list f)
sound-inner list f h = by (before list f.at) refl
  where
    by : (o : Option Action) → before list f.at ≡ o → AllSound (option_map_or (λ a. part_in (kind_of a) f.inside) o [])
    by None e = refl
    by (Some a) e = sound-part (kind_of a) f.inside (sound-before list f.at a h e)

sound-walk : (list : List Action) (fs : List Frame) → AllSound list → AllSound (list_in list fs)
sound-walk list [] h = h
sound-walk list (f ∷ fs) h = sound-walk (inner_list list f) fs (sound-inner list f h)

module _ (list : List Action) (t : Thread) (sound : AllSound list) where
  side-sound : (i : ℕ) → AllSound (nth_list (lists_of (last_action list t)) i)
  side-sound i = by (last_action list t) refl
    where
      by : (o : Option Action) → last_action list t ≡ o → AllSound (nth_list (lists_of o) i)
      by None e = no-list i
      by (Some a) e = sound-sides (kind_of a) i (sound-before (own_list list t) t.here.at a (sound-walk list t.outer sound) e)

  last-sound : (timeout : Option ℕ) (env : Pairs) → are_sound_triggers (ask_in (last_action list t) timeout env).triggers ≡ true
  last-sound timeout env = by (last_action list t) refl
    where
      by : (o : Option Action) → last_action list t ≡ o → are_sound_triggers (option_map_or (λ x. triggers_in (kind_of x)) o []) ≡ true
      by None e = refl
      by (Some a) e = sound-triggers (kind_of a) (sound-before (own_list list t) t.here.at a (sound-walk list t.outer sound) e)

-- ---- the wait of a branch

IsSound : Branch → Type 0
IsSound c = (x : Strand) (list : List Action) (ask : Ask) → AllSound list → asks x list c ≡ Some ask → are_sound_triggers ask.triggers ≡ true

none-asked : (ask : Ask) → None ≡ Some ask → are_sound_triggers ask.triggers ≡ true
none-asked ask e = absurd (let bad : ◌≡◌ {A = Option Ask} None (Some ask) = e in cc)

sound-here : IsSound []
unfolding IsSound
sound-here x list ask sound e = by (out-Stage (out-Strand x).stage) (sym (asks-out x list []) ∙ e)
  where
    t : Thread
    t = (out-Strand x).thread

    by : (k : Stage-F Stage Strand) → stage_asks (map-Stage Stage Strand StageAsks Asks ask_stage asks k) (last_action list t) t.scopes [] ≡ Some ask → are_sound_triggers ask.triggers ≡ true
    by Stage-F.Ready f = none-asked ask f
    by (Stage-F.Delay due) f = none-asked ask f
    by (Stage-F.Wait timeout) f =
        (let same : ask_in (last_action list t) timeout (flat t.scopes) ≡ ask = cc in ap (λ (q : Ask). are_sound_triggers q.triggers) (sym same) ∙ last-sound list t sound timeout (flat t.scopes))
    by (Stage-F.Sides xs) f = none-asked ask f
    by (Stage-F.Ended end) f = none-asked ask f

sound-below : (c : Branch) (i : ℕ) → IsSound c → IsSound (i ∷ c)
unfolding IsSound
sound-below c i ih x list ask sound e = by (out-Stage (out-Strand x).stage) (sym (asks-out x list (i ∷ c)) ∙ e)
  where
    t : Thread
    t = (out-Strand x).thread

    lists : List (List Action)
    lists = lists_of (last_action list t)

    side : (xs : List Strand) (o : Option Strand) → slice_get xs i ≡ o → option_map_or (λ m. m (nth_list lists i) c) (slice_get (map asks xs) i) None ≡ Some ask → are_sound_triggers ask.triggers ≡ true
    side xs None q f = none-asked ask (sym (ap (λ o. option_map_or (λ m. m (nth_list lists i) c) o None) (get-none asks xs i q)) ∙ f)
    side xs (Some y) q f = ih y (nth_list lists i) ask (side-sound list t sound i) (sym (ap (λ o. option_map_or (λ m. m (nth_list lists i) c) o None) (get-map asks xs i y q)) ∙ f)

    by : (k : Stage-F Stage Strand) → stage_asks (map-Stage Stage Strand StageAsks Asks ask_stage asks k) (last_action list t) t.scopes (i ∷ c) ≡ Some ask → are_sound_triggers ask.triggers ≡ true
    by Stage-F.Ready f = none-asked ask f
    by (Stage-F.Delay due) f = none-asked ask f
    by (Stage-F.Wait timeout) f = none-asked ask f
    by (Stage-F.Sides xs) f = side xs (slice_get xs i) refl f
    by (Stage-F.Ended end) f = none-asked ask f

sound-at : (c : Branch) → IsSound c
sound-at [] = sound-here
sound-at (i ∷ c) = sound-below c i (sound-at c)

-- LAW: what the wait of a branch asks of a sound script has sound triggers
pub ask-sound : (c : Branch) (x : Strand) (list : List Action) (ask : Ask) → are_sound_actions list ≡ true → asks x list c ≡ Some ask → are_sound_triggers ask.triggers ≡ true
unfolding IsSound
ask-sound c x list ask sound e = sound-at c x list ask (both (is_short list) (list_all is_sound_action list) sound).1 e
