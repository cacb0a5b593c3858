-- When an action is sound, by its kind.
use Rattle.std.proofs.Common.{◌≡◌, ◌∙◌, ap, sym, Bool, true, List, map, Option}
use Rattle.std.specs.Prelude.{◌&&◌}
use Rattle.ha_config.specs.declared.template.Template.{Template}
use Rattle.ha_config.specs.declared.config.Action.{Action}
use Rattle.ha_config.specs.declared.config.ActionKind.{ActionKind}
use Rattle.ha_config.specs.declared.config.ActionKind.TheVariants as does
use Rattle.ha_config.specs.declared.config.ActionKind.TheOpen.{ActionKind-F}
use Rattle.ha_config.specs.declared.config.ActionKind.TheFolds.{fold-ActionKind, fold-roll-ActionKind, fold-roll-Action}
use Rattle.ha_config.specs.declared.config.Condition.{Condition}
use Rattle.ha_config.specs.declared.config.Form.{Form}
use Rattle.ha_config.specs.declared.config.RepeatKind.{RepeatKind}
use Rattle.ha_config.specs.declared.config.SpanForm.{SpanForm}
use Rattle.ha_config.specs.declared.config.Trigger.{Trigger}
use Rattle.ha_config.specs.Sound.{all_short, all_true, are_sound_actions, are_sound_conditions, are_sound_fields, are_sound_triggers, if_there, is_sound_action, is_sound_condition, is_sound_repeat, is_sound_span, is_sound_template, sound_kind_step}
use Rattle.ha_config.specs.Words.{Text}
use Rattle.action_laws.proofs.Readings.{short_map}

-- ---- an action by its kind

abbrev pub sound_kind : ActionKind → Bool
sound_kind = fold-ActionKind Bool Bool sound_kind_step (λ a. a.kind)

pub by_kind : (k : ActionKind) → is_sound_action (record { kind = k }) ≡ sound_kind k
by_kind k = fold-roll-Action Bool Bool sound_kind_step (λ a. a.kind) (record { kind = k })

-- ---- what an option and the turns of a repeat are sound by

abbrev pub is_sound_option : List Condition × List Action → Bool
is_sound_option x = are_sound_conditions x.0 && are_sound_actions x.1

abbrev pub are_sound_turns : RepeatKind × List Action → Bool
are_sound_turns x = is_sound_repeat x.0 && are_sound_actions x.1

-- ---- each kind

pub call_sound : (service : Template) (target : List Template) (fields : List (Text × Form))
    → sound_kind (does.Call service target fields) ≡ (is_sound_template service && all_short is_sound_template target && are_sound_fields fields)
call_sound service target fields =
    ap sound_kind (sym (does.rolls-Call service target fields)) ∙ fold-roll-ActionKind Bool Bool sound_kind_step (λ a. a.kind) (ActionKind-F.Call service target fields)

pub delay_sound : (form : SpanForm) → sound_kind (does.Delay form) ≡ is_sound_span form
delay_sound form = ap sound_kind (sym (does.rolls-Delay form)) ∙ fold-roll-ActionKind Bool Bool sound_kind_step (λ a. a.kind) (ActionKind-F.Delay form)

pub wait_sound : (test : Template) (timeout : Option SpanForm) (go_on : Bool)
    → sound_kind (does.WaitUntil test timeout go_on) ≡ (is_sound_template test && if_there is_sound_span timeout)
wait_sound test timeout go_on =
    ap sound_kind (sym (does.rolls-WaitUntil test timeout go_on)) ∙ fold-roll-ActionKind Bool Bool sound_kind_step (λ a. a.kind) (ActionKind-F.WaitUntil test timeout go_on)

pub wait_for_sound : (triggers : List Trigger) (timeout : Option SpanForm) (go_on : Bool)
    → sound_kind (does.WaitFor triggers timeout go_on) ≡ (are_sound_triggers triggers && if_there is_sound_span timeout)
wait_for_sound triggers timeout go_on =
    ap sound_kind (sym (does.rolls-WaitFor triggers timeout go_on)) ∙ fold-roll-ActionKind Bool Bool sound_kind_step (λ a. a.kind) (ActionKind-F.WaitFor triggers timeout go_on)

-- a list of actions, as its answers
list_sound : (xs : List Action) → all_true (map is_sound_action xs) ≡ are_sound_actions xs
list_sound xs = short_map (λ b. b) is_sound_action xs

abbrev answered : List Condition × List Action → List Condition × List Bool
answered x = (x.0, map is_sound_action x.1)

options_sound : (os : List (List Condition × List Action))
    → all_short (λ x. are_sound_conditions x.0 && all_true x.1) (map answered os) ≡ all_short is_sound_option os
options_sound os =
    short_map (λ x. are_sound_conditions x.0 && all_true x.1) answered os
    ∙ (λ i. all_short (λ x. are_sound_conditions x.0 && list_sound x.1 i) os)

pub choose_sound : (options : List (List Condition × List Action)) (fallback : List Action)
    → sound_kind (does.Choose options fallback) ≡ (all_short is_sound_option options && are_sound_actions fallback)
choose_sound options fallback =
    ap sound_kind (sym (does.rolls-Choose options fallback)) ∙ fold-roll-ActionKind Bool Bool sound_kind_step (λ a. a.kind) (ActionKind-F.Choose options fallback)
    ∙ (λ i. options_sound options i && list_sound fallback i)

pub if_sound : (tests : List Condition) (yes' no' : List Action)
    → sound_kind (does.If tests yes' no') ≡ (are_sound_conditions tests && are_sound_actions yes' && are_sound_actions no')
if_sound tests yes' no' =
    ap sound_kind (sym (does.rolls-If tests yes' no')) ∙ fold-roll-ActionKind Bool Bool sound_kind_step (λ a. a.kind) (ActionKind-F.If tests yes' no')
    ∙ (λ i. are_sound_conditions tests && list_sound yes' i && list_sound no' i)

pub repeat_sound : (kind : RepeatKind) (body : List Action) → sound_kind (does.Repeat kind body) ≡ (is_sound_repeat kind && are_sound_actions body)
repeat_sound kind body =
    ap sound_kind (sym (does.rolls-Repeat kind body)) ∙ fold-roll-ActionKind Bool Bool sound_kind_step (λ a. a.kind) (ActionKind-F.Repeat kind body)
    ∙ ap (λ b. is_sound_repeat kind && b) (list_sound body)

lists_sound : (ls : List (List Action)) → all_short all_true (map (λ xs. map is_sound_action xs) ls) ≡ all_short are_sound_actions ls
lists_sound ls = short_map all_true (λ xs. map is_sound_action xs) ls ∙ (λ i. all_short (λ xs. list_sound xs i) ls)

pub parallel_sound : (lists : List (List Action)) → sound_kind (does.Parallel lists) ≡ all_short are_sound_actions lists
parallel_sound lists =
    ap sound_kind (sym (does.rolls-Parallel lists)) ∙ fold-roll-ActionKind Bool Bool sound_kind_step (λ a. a.kind) (ActionKind-F.Parallel lists) ∙ lists_sound lists

pub block_sound : (body : List Action) → sound_kind (does.Block body) ≡ are_sound_actions body
block_sound body =
    ap sound_kind (sym (does.rolls-Block body)) ∙ fold-roll-ActionKind Bool Bool sound_kind_step (λ a. a.kind) (ActionKind-F.Block body) ∙ list_sound body

pub set_sound : (pairs : List (Text × Form)) → sound_kind (does.Set pairs) ≡ are_sound_fields pairs
set_sound pairs = ap sound_kind (sym (does.rolls-Set pairs)) ∙ fold-roll-ActionKind Bool Bool sound_kind_step (λ a. a.kind) (ActionKind-F.Set pairs)

pub fire_sound : (event : Text) (fields : List (Text × Form)) → sound_kind (does.Fire event fields) ≡ are_sound_fields fields
fire_sound event fields =
    ap sound_kind (sym (does.rolls-Fire event fields)) ∙ fold-roll-ActionKind Bool Bool sound_kind_step (λ a. a.kind) (ActionKind-F.Fire event fields)

pub stop_sound : sound_kind does.Stop ≡ true
stop_sound = ap sound_kind (sym does.rolls-Stop) ∙ fold-roll-ActionKind Bool Bool sound_kind_step (λ a. a.kind) ActionKind-F.Stop

pub test_sound : (c : Condition) → sound_kind (does.Test c) ≡ is_sound_condition c
test_sound c = ap sound_kind (sym (does.rolls-Test c)) ∙ fold-roll-ActionKind Bool Bool sound_kind_step (λ a. a.kind) (ActionKind-F.Test c)
