-- Sound configurations: what every configuration that is read meets, and the engine relies on.
use Rattle.std.specs.Prelude.{ℕ, ◌≡◌, ℤ, pos, int_le, Bool, true, false, ◌&&◌, nat_eq, nat_lt, nat_le, IsTrue, List, [], ◌∷◌, length, map, Option, codes}
use Rattle.std.specs.List.{list_all}
use Rattle.std.specs.Option.{option_map_or}
use Rattle.std.specs.Str.{is_utf8}
use Rattle.ha_clock.specs.Local.{last_moment}
use Rattle.ha_value.specs.Ids.{is_name, is_entity, entity_text}
use Rattle.ha_value.specs.declared.value.Num.{Num}
use Rattle.ha_value.specs.declared.value.Value.{Value}
use Rattle.ha_value.specs.declared.value.Value.TheOpen.{Value-F}
use Rattle.ha_value.specs.declared.value.Value.TheFolds.{fold-Value}
use Rattle.ha_config.specs.declared.template.Expr.{Expr}
use Rattle.ha_config.specs.declared.template.Expr.TheOpen.{Expr-F}
use Rattle.ha_config.specs.declared.template.Expr.TheFolds.{fold-Expr}
use Rattle.ha_config.specs.declared.template.Template.{Template}
use Rattle.ha_config.specs.declared.template.Piece.TheOpen.{Piece-F}
use Rattle.ha_config.specs.declared.template.Piece.TheFolds.{fold-Template}
use Rattle.ha_config.specs.declared.config.Form.{Form}
use Rattle.ha_config.specs.declared.config.Form.TheOpen.{Form-F}
use Rattle.ha_config.specs.declared.config.Form.TheFolds.{fold-Form}
use Rattle.ha_config.specs.declared.config.SpanForm.{SpanForm}
use Rattle.ha_config.specs.declared.config.RepeatKind.{RepeatKind}
use Rattle.ha_config.specs.declared.config.Match.{Match}
use Rattle.ha_config.specs.declared.config.Unit as unit
use Rattle.ha_config.specs.declared.config.Trigger.{Trigger}
use Rattle.ha_config.specs.declared.config.TriggerRule.{TriggerRule}
use Rattle.ha_config.specs.declared.config.Condition.{Condition}
use Rattle.ha_config.specs.declared.config.Condition.TheOpen.{Condition-F}
use Rattle.ha_config.specs.declared.config.Condition.TheFolds.{fold-Condition}
use Rattle.ha_config.specs.declared.config.Action.{Action}
use Rattle.ha_config.specs.declared.config.ActionKind.TheOpen.{ActionKind-F}
use Rattle.ha_config.specs.declared.config.ActionKind.TheFolds.{fold-Action}
use Rattle.ha_config.specs.declared.config.Automation.{Automation}
use Rattle.ha_config.specs.declared.config.Config.{Config}
use Rattle.ha_config.specs.declared.config.Script.{Script}
use Rattle.ha_config.specs.declared.helper.Helper.{Helper}
use Rattle.ha_config.specs.declared.helper.HelperKind.{HelperKind}
use Rattle.ha_config.specs.Words.{Text, comes_before, same}
use Rattle.ha_config.specs.Numbers.{is_in_range}
use Rattle.ha_config.specs.ValueFacts.{all_distinct, is_sound_value, are_sound_pairs}

-- a list has fewer than 2^32 members, and all of them pass
abbrev pub is_short : {X : Type 0} → List X → Bool
is_short xs = nat_lt (length xs) 4_294_967_296

abbrev pub all_short : {X : Type 0} → (X → Bool) → List X → Bool
all_short test xs = is_short xs && list_all test xs

abbrev pub all_true : List Bool → Bool
all_true bs = all_short (λ b. b) bs

abbrev pub if_there : {X : Type 0} → (X → Bool) → Option X → Bool
if_there test o = option_map_or test o true

-- ---- plain values

abbrev pub short_step : Value-F Bool → Bool
short_step Value-F.Null = true
short_step (Value-F.Flag b) = true
short_step (Value-F.Number n) = true
short_step (Value-F.Text t) = true
short_step (Value-F.Items bs) = all_true bs
short_step (Value-F.Pairs ps) = all_short (λ p. p.1) ps

-- each list and map in a value is so short, at any depth
abbrev pub has_short_lists : Value → Bool
has_short_lists = fold-Value Bool short_step

abbrev pub is_plain_value : Value → Bool
is_plain_value v = is_sound_value v && has_short_lists v

-- ---- templates and forms

abbrev pub sound_expr_step : Expr-F Bool → Bool
sound_expr_step (Expr-F.Plain v) = is_plain_value v
sound_expr_step (Expr-F.Name name) = true
sound_expr_step (Expr-F.List items) = all_true items
sound_expr_step (Expr-F.Field base name) = base
sound_expr_step (Expr-F.At base index) = base && index
sound_expr_step (Expr-F.Filter name base args) = base && all_true args
sound_expr_step (Expr-F.Function name args) = all_true args
sound_expr_step (Expr-F.Negate e) = e
sound_expr_step (Expr-F.Not e) = e
sound_expr_step (Expr-F.IsNone base holds) = base
sound_expr_step (Expr-F.Pair op left right) = left && right
sound_expr_step (Expr-F.Pick test yes' no') = test && yes' && if_there (λ b. b) no'

abbrev pub is_sound_expr : Expr → Bool
is_sound_expr = fold-Expr Bool sound_expr_step

abbrev pub sound_piece_step : Piece-F Bool Bool → Bool
sound_piece_step (Piece-F.Text t) = true
sound_piece_step (Piece-F.Show e) = is_sound_expr e
sound_piece_step (Piece-F.Assign name e) = is_sound_expr e
sound_piece_step (Piece-F.Choice arms fallback) = all_short (λ a. is_sound_expr a.0 && a.1) arms && fallback

abbrev pub is_sound_template : Template → Bool
is_sound_template = fold-Template Bool Bool sound_piece_step (λ t. all_true t.pieces)

abbrev pub sound_form_step : Form-F Bool → Bool
sound_form_step (Form-F.Plain v) = is_plain_value v
sound_form_step (Form-F.Text t) = is_sound_template t
sound_form_step (Form-F.Items bs) = all_true bs
sound_form_step (Form-F.Pairs ps) = all_distinct (map (λ p. p.0) ps) && all_short (λ p. p.1) ps

abbrev pub is_sound_form : Form → Bool
is_sound_form = fold-Form Bool sound_form_step

abbrev pub are_sound_fields : List (Text × Form) → Bool
are_sound_fields ps = all_distinct (map (λ p. p.0) ps) && all_short (λ p. is_sound_form p.1) ps

-- the parts of a span are its days, hours, minutes, seconds and milliseconds
abbrev pub is_sound_span : SpanForm → Bool
is_sound_span (SpanForm.Known d) = true
is_sound_span (SpanForm.Text t) = is_sound_template t
is_sound_span (SpanForm.Parts ts) = nat_eq (length ts) 5 && list_all is_sound_template ts

-- ---- triggers and conditions

abbrev pub is_second_of_day : ℕ → Bool
is_second_of_day s = nat_lt s 86_400

abbrev pub is_sound_match : Match → Bool
is_sound_match Match.Absent = true
is_sound_match Match.Any = true
is_sound_match (Match.OneOf ts) = is_short ts
is_sound_match (Match.NoneOf ts) = is_short ts

abbrev pub is_sound_unit : unit.Unit → Bool
is_sound_unit unit.Unit.Every = true
is_sound_unit (unit.Unit.Exact n) = true
is_sound_unit (unit.Unit.Each n) = nat_le 1 n

abbrev pub is_sound_rule : TriggerRule → Bool
is_sound_rule (TriggerRule.State entities attribute from to) = is_short entities && is_sound_match from && is_sound_match to
is_sound_rule (TriggerRule.Numeric entities attribute above below) =
    is_short entities && if_there is_in_range above && if_there is_in_range below
is_sound_rule (TriggerRule.Event kinds pairs) = is_short kinds && are_sound_pairs pairs && all_short (λ p. has_short_lists p.1) pairs
is_sound_rule (TriggerRule.Time seconds) = all_short is_second_of_day seconds
is_sound_rule (TriggerRule.Pattern hours minutes seconds) = is_sound_unit hours && is_sound_unit minutes && is_sound_unit seconds
is_sound_rule (TriggerRule.Template t) = is_sound_template t
is_sound_rule TriggerRule.Start = true

-- only these have a `for`, which is over 0
abbrev pub may_hold : TriggerRule → Bool
may_hold (TriggerRule.State entities attribute from to) = true
may_hold (TriggerRule.Numeric entities attribute above below) = true
may_hold (TriggerRule.Template t) = true
may_hold (TriggerRule.Event kinds pairs) = false
may_hold (TriggerRule.Time seconds) = false
may_hold (TriggerRule.Pattern hours minutes seconds) = false
may_hold TriggerRule.Start = false

abbrev pub is_sound_trigger : Trigger → Bool
is_sound_trigger t = is_sound_rule t.rule && if_there (λ d. nat_lt 0 d && may_hold t.rule) t.hold

abbrev pub are_sound_triggers : List Trigger → Bool
are_sound_triggers ts = all_short is_sound_trigger ts

abbrev pub sound_condition_step : Condition-F Bool → Bool
sound_condition_step (Condition-F.And bs) = all_true bs
sound_condition_step (Condition-F.Or bs) = all_true bs
sound_condition_step (Condition-F.Not bs) = all_true bs
sound_condition_step (Condition-F.State entities attribute texts hold) = is_short entities && is_short texts
sound_condition_step (Condition-F.Numeric entities attribute above below) =
    is_short entities && if_there is_in_range above && if_there is_in_range below
sound_condition_step (Condition-F.Template t) = is_sound_template t
sound_condition_step (Condition-F.Time after before weekdays) =
    if_there is_second_of_day after && if_there is_second_of_day before && if_there is_short weekdays
sound_condition_step (Condition-F.Trigger ids) = is_short ids

abbrev pub is_sound_condition : Condition → Bool
is_sound_condition = fold-Condition Bool sound_condition_step

abbrev pub are_sound_conditions : List Condition → Bool
are_sound_conditions cs = all_short is_sound_condition cs

-- ---- actions

abbrev pub is_sound_repeat : RepeatKind → Bool
is_sound_repeat (RepeatKind.Count t) = is_sound_template t
is_sound_repeat (RepeatKind.While cs) = are_sound_conditions cs
is_sound_repeat (RepeatKind.Until cs) = are_sound_conditions cs
is_sound_repeat (RepeatKind.Each fs) = all_short is_sound_form fs

abbrev pub sound_kind_step : ActionKind-F Bool Bool → Bool
sound_kind_step (ActionKind-F.Call service target fields) =
    is_sound_template service && all_short is_sound_template target && are_sound_fields fields
sound_kind_step (ActionKind-F.Delay form) = is_sound_span form
sound_kind_step (ActionKind-F.WaitUntil test timeout go_on) = is_sound_template test && if_there is_sound_span timeout
sound_kind_step (ActionKind-F.WaitFor triggers timeout go_on) = are_sound_triggers triggers && if_there is_sound_span timeout
sound_kind_step (ActionKind-F.Choose options fallback) =
    all_short (λ x. are_sound_conditions x.0 && all_true x.1) options && all_true fallback
sound_kind_step (ActionKind-F.If tests yes' no') = are_sound_conditions tests && all_true yes' && all_true no'
sound_kind_step (ActionKind-F.Repeat kind body) = is_sound_repeat kind && all_true body
sound_kind_step (ActionKind-F.Parallel lists) = all_short all_true lists
sound_kind_step (ActionKind-F.Block body) = all_true body
sound_kind_step (ActionKind-F.Set pairs) = are_sound_fields pairs
sound_kind_step (ActionKind-F.Fire event fields) = are_sound_fields fields
sound_kind_step ActionKind-F.Stop = true
sound_kind_step (ActionKind-F.Test c) = is_sound_condition c

abbrev pub is_sound_action : Action → Bool
is_sound_action = fold-Action Bool Bool sound_kind_step (λ a. a.kind)

abbrev pub are_sound_actions : List Action → Bool
are_sound_actions actions = all_short is_sound_action actions

-- ---- configurations

abbrev pub is_sound_automation : Automation → Bool
is_sound_automation a =
    is_name a.name && nat_le 1 a.max && nat_le a.max 1_000
    && are_sound_triggers a.triggers && are_sound_conditions a.tests && are_sound_actions a.actions

abbrev pub is_sound_script : Script → Bool
is_sound_script s = is_name s.name && nat_le 1 s.max && nat_le s.max 1_000 && are_sound_actions s.actions

-- ---- what is stored

-- the names are in byte order, each once
abbrev pub are_in_name_order : {X : Type 0} → List (Text × X) → Bool
are_in_name_order [] = true
are_in_name_order (p ∷ []) = true
are_in_name_order (p ∷ q ∷ ps) = comes_before p.0 q.0 && are_in_name_order (q ∷ ps)

-- what a store gives, where there is one: names in UTF-8, in byte order, each once
abbrev pub is_sound_store : Option (List (Text × Bool)) → Bool
is_sound_store stored = if_there (λ ps. are_in_name_order ps && list_all (λ p. is_utf8 p.0) ps) stored

abbrev pub IsSoundStore : Option (List (Text × Bool)) → Type 0
IsSoundStore stored = IsTrue (is_sound_store stored)

-- when automations last triggered, as a store gives it: names in UTF-8, in byte order, each once, and no moment past the last one that has a
-- text
pub record AreSoundMoments (ms : List (Text × ℕ)) : Type 0 where
  pub ordered : are_in_name_order ms ≡ true
  pub utf8 : list_all (λ p. is_utf8 p.0) ms ≡ true
  pub in_time : list_all (λ p. nat_le p.1 last_moment) ms ≡ true

-- ---- the whole

-- the names of the automations are distinct object ids, and there are at most 1,024 of them
abbrev pub are_sound_automations : List Automation → Bool
are_sound_automations all = nat_le (length all) 1_024 && all_distinct (map (λ a. a.name) all) && list_all is_sound_automation all

-- the same of the scripts
abbrev pub are_sound_scripts : List Script → Bool
are_sound_scripts all = nat_le (length all) 1_024 && all_distinct (map (λ s. s.name) all) && list_all is_sound_script all

abbrev pub is_whole_in_range : ℤ → Bool
is_whole_in_range z = is_in_range (Num.Whole z)

-- the domain of each kind; a counter's four numbers are in range, its step is at least 1, and it begins within its bounds
abbrev pub is_sound_kind : Text → HelperKind → Bool
is_sound_kind domain (HelperKind.Flag initial) = same domain (codes "input_boolean")
is_sound_kind domain (HelperKind.Counter initial step least greatest) =
    same domain (codes "counter")
    && is_whole_in_range initial && is_whole_in_range step && is_whole_in_range least && is_whole_in_range greatest
    && int_le (pos 1) step && int_le least initial && int_le initial greatest
is_sound_kind domain (HelperKind.Timer span) = same domain (codes "timer")

abbrev pub is_sound_helper : Helper → Bool
is_sound_helper h = is_entity h.entity && is_sound_kind h.entity.domain h.kind

-- the ids of the helpers are distinct, and there are at most 1,024 of them
abbrev pub are_sound_helpers : List Helper → Bool
are_sound_helpers all = nat_le (length all) 1_024 && all_distinct (map (λ h. entity_text h.entity) all) && list_all is_sound_helper all

abbrev pub is_sound_config : Config → Bool
is_sound_config c = are_sound_automations c.automations && (are_sound_scripts c.scripts && are_sound_helpers c.helpers)

abbrev pub IsSoundConfig : Config → Type 0
IsSoundConfig c = IsTrue (is_sound_config c)
