-- Actions that are read of a sound tree are sound.
use Rattle.std.proofs.Common.{◌≡◌, ◌∙◌, ◌<◌, refl, sym, subst, ℕ, Bool, true, List, [], ◌∷◌, ◌++◌, map, length, Option, Some, None, Ok, arith}
use Rattle.std.specs.Prelude.{◌&&◌, option_map, unwrap_or}
use Rattle.std.specs.List.{find}
use Rattle.std.proofs.lemmas.List.{length-map}
use Rattle.ha_config.specs.declared.config.Action.{Action}
use Rattle.ha_config.specs.declared.config.ActionKind.TheVariants as does
use Rattle.ha_config.specs.declared.config.Condition.TheVariants as tests
use Rattle.ha_config.specs.declared.config.Form.{Form}
use Rattle.ha_config.specs.declared.config.RepeatKind.{RepeatKind}
use Rattle.ha_config.specs.declared.template.Template.{Template}
use Rattle.ha_config.specs.Sound.{all_short, are_sound_actions, are_sound_conditions, is_sound_action, is_sound_form, is_sound_repeat}
use Rattle.ha_config.specs.Words.{Text}
use Rattle.yaml_scan.specs.declared.fault.Code.TheVariants as code
use Rattle.yaml_tree.specs.declared.node.Node.{Node}
use Rattle.yaml_tree.specs.declared.node.NodeKind.TheOpen.{NodeKind-F}
use Rattle.yaml_tree.specs.Readers.{Shape, line_of, shape_of, is_null_word}
use Rattle.conf_field.specs.declared.key.Key.TheVariants as key
use Rattle.conf_field.specs.declared.table.Row.{Row}
use Rattle.conf_field.specs.Holds.{Holds, Each, IfThere}
use Rattle.conf_field.specs.Fields.{Pair, field, get, keys, names, need, needed, row}
use Rattle.conf_field.specs.Kinds.{flag, template, template_by, text}
use Rattle.conf_field.specs.Parts.{Inner, Part}
use Rattle.conf_field.specs.Readings.{Read, alone, bad, both, each, kept, made}
use Rattle.conf_field.specs.Sizes.{IsSoundTree}
use Rattle.conf_field.proofs.PartLaws.{beside, beside_pair, inner, meaning-out}
use Rattle.conf_cond.specs.Conditions.{condition_map}
use Rattle.conf_script.specs.declared.name.ActionName.{ActionName}
use Rattle.conf_script.specs.declared.name.RepeatName.{RepeatName}
use Rattle.conf_script.specs.Actions as a
use Rattle.conf_script.specs.Actions.{Chosen, Inside, Means, means_step}
use Rattle.conf_script.specs.Calls.{or_none, service, target, targets}
use Rattle.conf_script.specs.Forms.{digits, fields, span_form}
use Rattle.conf_laws.proofs.Down.{AreSoundPairs, EachInside, IsSoundPair, IsSoundShape, down, found_each, most, sound_inside}
use Rattle.conf_laws.proofs.Joined.{pair}
use Rattle.conf_laws.proofs.Parts.{Anything, Passes, Reads, Two, all_items, alone_of, anything, either_way, field_sound, joined, kept_items, made_of, of_get, of_need, of_wanted}
use Rattle.conf_laws.proofs.Conditions.{condition_map_sound, conditions_sound}
use Rattle.conf_laws.proofs.Templates.{sound_template}
use Rattle.conf_laws.proofs.Triggers.{triggers_sound}
use Rattle.action_laws.proofs.Readings.{templates}
use Rattle.action_laws.proofs.SoundCalls as calls
use Rattle.action_laws.proofs.SoundCalls.{FewTargets}
use Rattle.action_laws.proofs.SoundForms as forms
use Rattle.action_laws.proofs.SoundKinds as kinds
use Rattle.action_laws.proofs.SoundKinds.{is_sound_option}
use Rattle.action_laws.proofs.SoundParts.{SoundTemplate, SoundSpan, SoundFields, SoundTests, SoundTriggers, SoundCondition, SoundAction, SoundActions, SoundKind, SoundOption, SoundTurns, SoundRepeat, Short, few_short, lone_short, AllSound, FieldSound, need_role, may_actions, all_role, fields_or_none, call_made, wait_made, wait_for_made, enabled_sound, tested_sound, template_condition}

-- ---- what is known of the kinds of values

triggers_hold : Reads SoundTriggers a.triggers_in
triggers_hold line n s = triggers_sound n s

tests_hold : Reads SoundTests a.conditions
tests_hold line n s = conditions_sound n s

template_holds : Reads SoundTemplate template
template_holds = sound_template

fields_hold : Reads SoundFields fields
fields_hold = forms.fields_hold

span_holds : Reads SoundSpan span_form
span_holds = calls.span_holds

forms_shape : (line : ℕ) (s : Shape) → IsSoundShape s → Holds (Short is_sound_form) (a.forms_by line s)
forms_shape line (NodeKind-F.Scalar t plain) h = tt
forms_shape line (NodeKind-F.List ns) h = forms.list_sound ns h
forms_shape line (NodeKind-F.Map ps) h = tt

forms_hold : Reads (Short is_sound_form) a.forms
forms_hold line n t = forms_shape line (shape_of n) (sound_inside n t)

-- ---- the kinds that hold no actions

module _ (line : ℕ) (ps : List Pair) (sound : AreSoundPairs ps) where
  call_holds : Holds SoundKind (a.call line ps)
  call_holds =
      let named = needed service line (field (a.row_of ActionName.OfCall) ps) in
      let first = get key.Target ps target in
      let second = get key.EntityId ps targets in
      let given = get key.Data ps fields in
      let There : Option (List Template) → Type 0 = IfThere FewTargets in
      let Given : Option (List (Text × Form)) → Type 0 = IfThere SoundFields in
      made_of (Two SoundTemplate (Two There (Two There Given))) SoundKind a.made_call (both named (both first (both second given)))
      (λ x h. call_made x.0 x.1.0 x.1.1.0 x.1.1.1 h.0 h.1.0 h.1.1.0 h.1.1.1)
      (joined SoundTemplate (Two There (Two There Given)) named (both first (both second given))
      (of_wanted SoundTemplate code.MissingKey service calls.service_holds line (field (a.row_of ActionName.OfCall) ps) (field_sound (a.row_of ActionName.OfCall) ps sound))
      (joined There (Two There Given) first (both second given)
      (of_get FewTargets target calls.target_holds key.Target ps sound)
      (joined There Given second given
      (of_get FewTargets targets calls.targets_hold key.EntityId ps sound)
      (of_get SoundFields fields fields_hold key.Data ps sound))))

  delay_holds : Holds SoundKind (a.delay line ps)
  delay_holds =
      made_of SoundSpan SoundKind does.Delay (need key.Delay line ps span_form) (λ x h. kinds.delay_sound x ∙ h)
      (of_need SoundSpan span_form span_holds key.Delay line ps sound)

  timeout_holds : Holds (Two (IfThere SoundSpan) Anything) (both (get key.Timeout ps span_form) (get key.ContinueOnTimeout ps flag))
  timeout_holds =
      joined (IfThere SoundSpan) Anything (get key.Timeout ps span_form) (get key.ContinueOnTimeout ps flag)
      (of_get SoundSpan span_form span_holds key.Timeout ps sound) (anything (get key.ContinueOnTimeout ps flag))

  wait_holds : Holds SoundKind (a.wait_template line ps)
  wait_holds =
      let test = need key.WaitTemplate line ps template in
      let rest = both (get key.Timeout ps span_form) (get key.ContinueOnTimeout ps flag) in
      made_of (Two SoundTemplate (Two (IfThere SoundSpan) Anything)) SoundKind a.made_wait (both test rest)
      (λ x h. wait_made x.0 x.1.0 (a.go_on x.1.1) h.0 h.1.0)
      (joined SoundTemplate (Two (IfThere SoundSpan) Anything) test rest (of_need SoundTemplate template template_holds key.WaitTemplate line ps sound) timeout_holds)

  wait_for_holds : Holds SoundKind (a.wait_for_trigger line ps)
  wait_for_holds =
      let listed = need key.WaitForTrigger line ps a.triggers_in in
      let rest = both (get key.Timeout ps span_form) (get key.ContinueOnTimeout ps flag) in
      made_of (Two SoundTriggers (Two (IfThere SoundSpan) Anything)) SoundKind a.made_wait_for (both listed rest)
      (λ x h. wait_for_made x.0 x.1.0 (a.go_on x.1.1) h.0 h.1.0)
      (joined SoundTriggers (Two (IfThere SoundSpan) Anything) listed rest (of_need SoundTriggers a.triggers_in triggers_hold key.WaitForTrigger line ps sound) timeout_holds)

  variables_hold : Holds SoundKind (a.variables line ps)
  variables_hold =
      made_of SoundFields SoundKind does.Set (need key.Variables line ps fields) (λ x h. kinds.set_sound x ∙ h)
      (of_need SoundFields fields fields_hold key.Variables line ps sound)

  event_holds : Holds SoundKind (a.event line ps)
  event_holds =
      let named = need key.Event line ps text in
      let given = get key.EventData ps fields in
      made_of (Two Anything (IfThere SoundFields)) SoundKind a.made_event (both named given)
      (λ x h. kinds.fire_sound x.0 (or_none x.1) ∙ fields_or_none x.1 h.1)
      (joined Anything (IfThere SoundFields) named given (anything named) (of_get SoundFields fields fields_hold key.EventData ps sound))

  stop_holds : Holds SoundKind (a.stop line ps)
  stop_holds =
      let rest = both (need key.Stop line ps a.text_or_null) (get key.Error ps flag) in
      made_of Anything SoundKind a.made_stop rest (λ x h. kinds.stop_sound) (anything rest)

  -- ---- those that do

  module _ (inside : Inside) (within : (r : Row) → FieldSound (inside r)) where
    need_actions : (r : Row) → Holds SoundActions (a.need_in a.all_of line (inside r))
    need_actions r = need_role SoundActions a.all_of all_role line (inside r) (within r)

    choose_holds : Holds SoundKind (a.choose line inside)
    choose_holds =
        let options = a.need_in a.choices_of line (inside (row key.Choose)) in
        let fallback = a.may_in a.all_of (inside (row key.Default)) in
        let Options : List Chosen → Type 0 = Short is_sound_option in
        made_of (Two Options SoundActions) SoundKind a.made_choose (both options fallback)
        (λ x h. kinds.choose_sound x.0 x.1 ∙ pair (all_short is_sound_option x.0) (are_sound_actions x.1) h.0 h.1)
        (joined Options SoundActions options fallback
        (need_role Options a.choices_of (λ l m h. h.choices l) line (inside (row key.Choose)) (within (row key.Choose)))
        (may_actions (inside (row key.Default)) (within (row key.Default))))

    if_holds_sound : Holds SoundKind (a.if_then line ps inside)
    if_holds_sound =
        let asked = need key.If line ps a.conditions in
        let yes' = a.need_in a.all_of line (inside (row key.Then)) in
        let no' = a.may_in a.all_of (inside (row key.Else)) in
        made_of (Two SoundTests (Two SoundActions SoundActions)) SoundKind a.made_if (both asked (both yes' no'))
        (λ x h. kinds.if_sound x.0 x.1.0 x.1.1
        ∙ pair (are_sound_conditions x.0 && are_sound_actions x.1.0) (are_sound_actions x.1.1) (pair (are_sound_conditions x.0) (are_sound_actions x.1.0) h.0 h.1.0) h.1.1)
        (joined SoundTests (Two SoundActions SoundActions) asked (both yes' no')
        (of_need SoundTests a.conditions tests_hold key.If line ps sound)
        (joined SoundActions SoundActions yes' no' (need_actions (row key.Then)) (may_actions (inside (row key.Else)) (within (row key.Else)))))

    repeat_holds : Holds SoundKind (made a.made_repeat (a.need_in a.turns_of line (inside (row key.Repeat))))
    repeat_holds =
        made_of SoundTurns SoundKind a.made_repeat (a.need_in a.turns_of line (inside (row key.Repeat))) (λ x h. kinds.repeat_sound x.0 x.1 ∙ h)
        (need_role SoundTurns a.turns_of (λ l m h. h.turns l) line (inside (row key.Repeat)) (within (row key.Repeat)))

    parallel_holds : Holds SoundKind (made does.Parallel (a.need_in a.branches_of line (inside (row key.Parallel))))
    parallel_holds =
        let Lists : List (List Action) → Type 0 = Short are_sound_actions in
        made_of Lists SoundKind does.Parallel (a.need_in a.branches_of line (inside (row key.Parallel))) (λ x h. kinds.parallel_sound x ∙ h)
        (need_role Lists a.branches_of (λ l m h. h.branches) line (inside (row key.Parallel)) (within (row key.Parallel)))

    block_holds : Holds SoundKind (made does.Block (a.need_in a.all_of line (inside (row key.Sequence))))
    block_holds =
        made_of SoundActions SoundKind does.Block (a.need_in a.all_of line (inside (row key.Sequence))) (λ x h. kinds.block_sound x ∙ h) (need_actions (row key.Sequence))

    body_holds : (k : ActionName) → Holds SoundKind (a.body k line ps inside)
    body_holds ActionName.OfCall = call_holds
    body_holds ActionName.OfDelay = delay_holds
    body_holds ActionName.OfWaitTemplate = wait_holds
    body_holds ActionName.OfWaitForTrigger = wait_for_holds
    body_holds ActionName.OfChoose = choose_holds
    body_holds ActionName.OfIf = if_holds_sound
    body_holds ActionName.OfRepeat = repeat_holds
    body_holds ActionName.OfParallel = parallel_holds
    body_holds ActionName.OfSequence = block_holds
    body_holds ActionName.OfVariables = variables_hold
    body_holds ActionName.OfEvent = event_holds
    body_holds ActionName.OfStop = stop_holds
    body_holds ActionName.OfCondition = tt
    body_holds ActionName.OfAnd = tt
    body_holds ActionName.OfOr = tt
    body_holds ActionName.OfNot = tt

    with_keys_hold : (k : ActionName) → Holds (IfThere SoundAction) (a.with_keys k ps (a.body k line ps inside))
    with_keys_hold k =
        let kind = a.body k line ps inside in
        let known = keys (a.common_rows ++ a.kind_rows k) ps in
        let goes_on = get key.ContinueOnError ps flag in
        let enabled = get key.Enabled ps flag in
        made_of (Two Anything (Two Anything (Two Anything SoundKind))) (IfThere SoundAction) a.made_action (both known (both goes_on (both enabled kind)))
        (λ x h. enabled_sound (unwrap_or x.1.1.0 true) x.1.1.1 h.1.1.1)
        (joined Anything (Two Anything (Two Anything SoundKind)) known (both goes_on (both enabled kind)) (anything known)
        (joined Anything (Two Anything SoundKind) goes_on (both enabled kind) (anything goes_on)
        (joined Anything SoundKind enabled kind (anything enabled) (body_holds k))))

    named_holds : (o : Option ActionName) → Holds (IfThere SoundAction) (a.by_name line ps inside o)
    named_holds None = tt
    named_holds (Some k) =
        either_way (IfThere SoundAction) (a.is_test k) (made a.tested (condition_map true line ps)) (a.with_keys k ps (a.body k line ps inside))
        (made_of (IfThere SoundCondition) (IfThere SoundAction) a.tested (condition_map true line ps) tested_sound (condition_map_sound true line ps sound))
        (with_keys_hold k)

    map_holds : Holds (IfThere SoundAction) (a.of_map line ps inside)
    map_holds = named_holds (a.name_of ps)

    -- ---- options and turns

    option_holds : Holds SoundOption (a.option_of line ps inside)
    option_holds =
        let known = keys a.option_rows ps in
        let asked = need key.Conditions line ps a.conditions in
        let actions = a.need_in a.all_of line (inside (row key.Sequence)) in
        made_of (Two Anything (Two SoundTests SoundActions)) SoundOption a.made_option (both known (both asked actions))
        (λ x h. pair (are_sound_conditions x.1.0) (are_sound_actions x.1.1) h.1.0 h.1.1)
        (joined Anything (Two SoundTests SoundActions) known (both asked actions) (anything known)
        (joined SoundTests SoundActions asked actions (of_need SoundTests a.conditions tests_hold key.Conditions line ps sound) (need_actions (row key.Sequence))))

    turn_kind : (k : RepeatName) → Holds SoundRepeat (a.repeat_kind line ps k)
    turn_kind RepeatName.ByCount =
        made_of SoundTemplate SoundRepeat RepeatKind.Count (need key.Count line ps digits) (λ x h. h) (of_need SoundTemplate digits calls.digits_hold key.Count line ps sound)
    turn_kind RepeatName.ByWhile =
        made_of SoundTests SoundRepeat RepeatKind.While (need key.While line ps a.conditions) (λ x h. h) (of_need SoundTests a.conditions tests_hold key.While line ps sound)
    turn_kind RepeatName.ByUntil =
        made_of SoundTests SoundRepeat RepeatKind.Until (need key.Until line ps a.conditions) (λ x h. h) (of_need SoundTests a.conditions tests_hold key.Until line ps sound)
    turn_kind RepeatName.ByEach =
        let Forms : List Form → Type 0 = Short is_sound_form in
        made_of Forms SoundRepeat RepeatKind.Each (need key.ForEach line ps a.forms) (λ x h. h) (of_need Forms a.forms forms_hold key.ForEach line ps sound)

    turn_by : (o : Option RepeatName) → Holds SoundRepeat (a.repeat_by line ps o)
    turn_by (Some k) = turn_kind k
    turn_by None = tt

    turns_hold : Holds SoundTurns (a.turns_in line ps inside)
    turns_hold =
        let known = keys (a.repeat_rows (a.repeat_name ps)) ps in
        let kind = a.repeat_by line ps (a.repeat_name ps) in
        let actions = a.need_in a.all_of line (inside (row key.Sequence)) in
        made_of (Two Anything (Two SoundRepeat SoundActions)) SoundTurns a.made_turns (both known (both kind actions))
        (λ x h. pair (is_sound_repeat x.1.0) (are_sound_actions x.1.1) h.1.0 h.1.1)
        (joined Anything (Two SoundRepeat SoundActions) known (both kind actions) (anything known)
        (joined SoundRepeat SoundActions kind actions (turn_by (a.repeat_name ps)) (need_actions (row key.Sequence))))

-- ---- a node, by what the nodes inside give

abbrev PartSound : Part Means → Type 0
PartSound x = AllSound x.means

abbrev PairSound : a.PartPair → Type 0
PairSound p = AllSound p.2.means

abbrev InnerSound : Inner Means → Type 0
InnerSound (NodeKind-F.Scalar t plain) = Unit {0}
InnerSound (NodeKind-F.List items) = Each PartSound items × (length items < most)
InnerSound (NodeKind-F.Map ps) = Each PairSound ps × AreSoundPairs (a.nodes ps)

found_sound : (o : Option a.PartPair) → IfThere PairSound o → FieldSound (option_map a.found o)
found_sound (Some p) h = h
found_sound None h = tt

fields_sound : (ps : List a.PartPair) → Each PairSound ps → (r : Row) → FieldSound (a.inside_parts ps r)
fields_sound ps h r = found_sound (find (λ p. names r p.0) ps) (found_each PairSound (λ p. names r p.0) ps h)

scalar_sound : (line : ℕ) (t : List ℕ) (plain : Bool) → Holds (IfThere SoundAction) (a.of_scalar line t plain)
scalar_sound line t plain =
    either_way (IfThere SoundAction) (plain && is_null_word t) (bad line code.Kind) (made a.as_test (template_by line (Some t))) tt
    (made_of SoundTemplate (IfThere SoundAction) a.as_test (template_by line (Some t)) (λ x h. tested_sound (Some (tests.Template x)) (template_condition x ∙ h))
    (templates line (Some t)))

one_sound : (line : ℕ) (s : Inner Means) → InnerSound s → Holds (IfThere SoundAction) (a.means_one line s)
one_sound line (NodeKind-F.Scalar t plain) h = scalar_sound line t plain
one_sound line (NodeKind-F.List items) h = tt
one_sound line (NodeKind-F.Map ps) h = map_holds line (a.nodes ps) h.1 (a.inside_parts ps) (fields_sound ps h.0)

-- lists of what is there
module _ {X : Type 0} (test : X → Bool) (read : Means → Read (Option X)) (role : (m : Means) → AllSound m → Holds (IfThere (Passes test)) (read m)) where
  alone_short : (one : Read (Option X)) → Holds (IfThere (Passes test)) one → Holds (Short test) (alone one)
  alone_short one h = few_short test 1 (alone one) (omega arith) (alone_of test one h)

  parts_sound : (items : List (Part Means)) → Each PartSound items → Each (λ x. Holds (IfThere (Passes test)) (read x.means)) items
  parts_sound [] h = tt
  parts_sound (x ∷ xs) h = (role x.means h.0, parts_sound xs h.1)

  list_sound : (one : Read (Option X)) → Holds (IfThere (Passes test)) one → (s : Inner Means) → InnerSound s → Holds (Short test) (a.one_or_list read one s)
  list_sound one h (NodeKind-F.Scalar t plain) k = either_way (Short test) (plain && is_null_word t) (Ok []) (alone one) refl (alone_short one h)
  list_sound one h (NodeKind-F.List items) k =
      few_short test (length items) (kept (λ x. read x.means) items) k.1 (kept_items test (λ x. read x.means) items (parts_sound items k.0))
  list_sound one h (NodeKind-F.Map ps) k = alone_short one h

all_sound : (line : ℕ) (s : Inner Means) → InnerSound s → Holds SoundActions (a.one_of_list line s)
all_sound line s h = list_sound is_sound_action (λ m. m.one) (λ m k. k.one) (a.means_one line s) (one_sound line s h) s h

lone_branch : (o : Option Action) → IfThere SoundAction o → IfThere SoundActions (a.branch_of o)
lone_branch (Some x) h = lone_short is_sound_action x h
lone_branch None h = tt

branch_sound : (line : ℕ) (s : Inner Means) → InnerSound s → Holds (IfThere SoundActions) (a.branch_in line s)
branch_sound line (NodeKind-F.Scalar t plain) h =
    let s : Inner Means = NodeKind-F.Scalar t plain in
    made_of (IfThere SoundAction) (IfThere SoundActions) a.branch_of (a.means_one line s) lone_branch (one_sound line s h)
branch_sound line (NodeKind-F.List items) h =
    let s : Inner Means = NodeKind-F.List items in
    made_of SoundActions (IfThere SoundActions) a.some_branch (a.one_of_list line s) (λ xs k. k) (all_sound line s h)
branch_sound line (NodeKind-F.Map ps) h =
    let s : Inner Means = NodeKind-F.Map ps in
    made_of (IfThere SoundAction) (IfThere SoundActions) a.branch_of (a.means_one line s) lone_branch (one_sound line s h)

option_sound : (line : ℕ) (s : Inner Means) → InnerSound s → Holds SoundOption (a.means_option line s)
option_sound line (NodeKind-F.Scalar t plain) h = tt
option_sound line (NodeKind-F.List items) h = tt
option_sound line (NodeKind-F.Map ps) h = option_holds line (a.nodes ps) h.1 (a.inside_parts ps) (fields_sound ps h.0)

options_in : (items : List (Part Means)) → Each PartSound items → Each (λ x. Holds SoundOption x.means.chosen) items
options_in [] h = tt
options_in (x ∷ xs) h = (h.0.chosen, options_in xs h.1)

options_sound : (own : Read Chosen) → Holds SoundOption own → (s : Inner Means) → InnerSound s → (line : ℕ) → Holds (Short is_sound_option) (a.means_options own s line)
options_sound own k (NodeKind-F.Scalar t plain) h line = tt
options_sound own k (NodeKind-F.List items) h line =
    few_short is_sound_option (length items) (each (λ x. x.means.chosen) items) h.1 (all_items is_sound_option (λ x. x.means.chosen) items (options_in items h.0))
options_sound own k (NodeKind-F.Map ps) h line = made_of SoundOption (Short is_sound_option) (λ o. o ∷ []) own (λ x e. lone_short is_sound_option x e) k

turns_sound : (own : ℕ) (s : Inner Means) → InnerSound s → (line : ℕ) → Holds SoundTurns (a.means_turns own s line)
turns_sound own (NodeKind-F.Scalar t plain) h line = tt
turns_sound own (NodeKind-F.List items) h line = tt
turns_sound own (NodeKind-F.Map ps) h line = turns_hold own (a.nodes ps) h.1 (a.inside_parts ps) (fields_sound ps h.0)

step_sound : (line : ℕ) (s : Inner Means) → InnerSound s → AllSound (means_step line s)
step_sound line s h = record {
  one = one_sound line s h;
  all = all_sound line s h;
  branch = branch_sound line s h;
  branches = list_sound are_sound_actions (λ m. m.branch) (λ m k. k.branch) (a.branch_in line s) (branch_sound line s h) s h;
  chosen = option_sound line s h;
  choices = options_sound (a.means_option line s) (option_sound line s h) s h;
  turns = turns_sound line s h;
}

-- ---- down the tree

abbrev NodeSound : Node → Type 0
NodeSound n = IsSoundTree n → AllSound (a.means n)

abbrev part : Node → Part Means
part = beside Means means_step

abbrev part_pair : Pair → a.PartPair
part_pair = beside_pair Means means_step

inner_items : (ns : List Node) → Each NodeSound ns → Each IsSoundTree ns → Each PartSound (map part ns)
inner_items [] h t = tt
inner_items (n ∷ ns) h t = (h.0 t.0, inner_items ns h.1 t.1)

inner_pairs : (ps : List Pair) → Each (λ p. NodeSound p.2) ps → Each IsSoundPair ps → Each PairSound (map part_pair ps)
inner_pairs [] h t = tt
inner_pairs (p ∷ ps) h t = (h.0 t.0.0, inner_pairs ps h.1 t.1)

same_nodes : (ps : List Pair) → a.nodes (map part_pair ps) ≡ ps
same_nodes [] = refl
same_nodes (p ∷ ps) = λ i. p ∷ same_nodes ps i

inner_sound : (s : Shape) → EachInside NodeSound s → IsSoundShape s → InnerSound (inner Means means_step s)
inner_sound (NodeKind-F.Scalar t plain) h k = tt
inner_sound (NodeKind-F.List ns) h k = (inner_items ns h k.each, omega (arith, k.few, length-map ns part))
inner_sound (NodeKind-F.Map ps) h k = (inner_pairs ps h k.each, subst AreSoundPairs (sym (same_nodes ps)) k)

pub node_sound : (n : Node) → IsSoundTree n → AllSound (a.means n)
node_sound = down NodeSound
    (λ n h t. subst AllSound (sym (meaning-out Means means_step n)) (step_sound (line_of n) (inner Means means_step (shape_of n)) (inner_sound (shape_of n) h (sound_inside n t))))

-- the actions of a sound tree are sound
pub actions_sound : (n : Node) → IsSoundTree n → Holds SoundActions (a.actions n)
actions_sound n t = (node_sound n t).all
