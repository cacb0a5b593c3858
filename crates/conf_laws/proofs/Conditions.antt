-- The conditions that are read of a sound tree are sound.
use Rattle.std.proofs.Common.{◌≡◌, ◌∙◌, ap, sym, subst, refl, ℕ, ◌+◌, ◌≤◌, ◌<◌, Bool, true, false, cond, List, [], ◌∷◌, ◌++◌, length, Option, Some, None, Ok, Err, arith}
use Rattle.std.specs.Prelude.{◌&&◌, unwrap_or}
use Rattle.ha_config.specs.declared.template.Template.{Template}
use Rattle.ha_config.specs.declared.config.Condition.{Condition}
use Rattle.ha_config.specs.declared.config.Condition.TheVariants as conditions
use Rattle.ha_config.specs.declared.config.Condition.TheOpen.{Condition-F}
use Rattle.ha_config.specs.declared.config.Condition.TheViews.{roll-Condition}
use Rattle.ha_config.specs.declared.config.Condition.TheFolds.{fold-roll-Condition, map-Condition}
use Rattle.ha_config.specs.Sound.{are_sound_conditions, if_there, is_second_of_day, is_short, is_sound_condition, is_sound_template, sound_condition_step}
use Rattle.ha_config.specs.Numbers.{is_in_range}
use Rattle.yaml_scan.specs.declared.fault.Code.TheVariants as code
use Rattle.yaml_tree.specs.declared.node.Node.{Node}
use Rattle.yaml_tree.specs.declared.node.NodeKind.TheOpen.{NodeKind-F}
use Rattle.yaml_tree.specs.Readers.{Shape, line_of, shape_of, is_null_word}
use Rattle.conf_field.specs.declared.key.Key.TheVariants as key
use Rattle.conf_field.specs.declared.table.Row.{Row}
use Rattle.conf_field.specs.Holds.{Holds, Each, IfThere}
use Rattle.conf_field.specs.Readings.{Read, alone, kept, made, unless}
use Rattle.conf_field.specs.Fields.{Pair, field, get, keys, need, one_of, row, wanted}
use Rattle.conf_field.specs.Kinds.{entities, flag, number, several, template, template_by, text, texts, time}
use Rattle.conf_field.specs.Spans.{span}
use Rattle.conf_field.specs.Sizes.{IsSoundTree}
use Rattle.conf_cond.specs.declared.kind.ConditionKind.{ConditionKind}
use Rattle.conf_cond.specs.declared.kind.KindKey.{KindKey}
use Rattle.conf_cond.specs.Conditions.{Inside, all_at, all_by, as_condition, by_key, by_name, common_rows, condition, condition_map, goes_on, inside, kind_key, kind_rows, made_condition, made_numeric, made_state, made_time, named, numeric_rule, of_map, of_scalar as scalar_rule, one_by, read_conditions, rule, state_rule, template_rule, time_rule, trigger_rule, weekday, with_keys}
use Rattle.conf_cond.proofs.Opened.{all-out, one-out}
use Rattle.conf_laws.proofs.Joined.{all_mapped, all_passed, pair}
use Rattle.conf_laws.proofs.Down.{AreSoundPairs, EachInside, IsSoundPair, IsSoundShape, down, found_each, most, sound_inside}
use Rattle.conf_laws.proofs.Parts.{AllOf, Anything, Passes, Reads, alone_of, anything, either_way, finish, grown, kept_items, known, made_of, of_get, of_need, one_or_more, there, unknown, weaker, with}
use Rattle.conf_laws.proofs.KindLaws.{ranged_number, short_entities, short_most, short_texts, time_in_day}
use Rattle.conf_laws.proofs.Templates.{sound_template, sound_template_text}

abbrev Sound : Condition → Type 0
Sound c = is_sound_condition c ≡ true

sound_at : (x : Condition-F Condition) → is_sound_condition (roll-Condition x) ≡ sound_condition_step (map-Condition Condition Bool is_sound_condition x)
sound_at x = fold-roll-Condition Bool sound_condition_step x

abbrev SoundList : List Condition → Type 0
SoundList = AllOf is_sound_condition most

few_of : {A : Type 0} (xs : List A) → length xs ≤ most → length xs < 4_294_967_296
few_of xs h = omega (arith, h)

of_and : (cs : List Condition) → SoundList cs → Sound (conditions.And cs)
of_and cs h = ap is_sound_condition (sym (conditions.rolls-And cs)) ∙ sound_at (Condition-F.And cs) ∙ all_mapped is_sound_condition cs h.0 (few_of cs h.1)

of_or : (cs : List Condition) → SoundList cs → Sound (conditions.Or cs)
of_or cs h = ap is_sound_condition (sym (conditions.rolls-Or cs)) ∙ sound_at (Condition-F.Or cs) ∙ all_mapped is_sound_condition cs h.0 (few_of cs h.1)

of_not : (cs : List Condition) → SoundList cs → Sound (conditions.Not cs)
of_not cs h = ap is_sound_condition (sym (conditions.rolls-Not cs)) ∙ sound_at (Condition-F.Not cs) ∙ all_mapped is_sound_condition cs h.0 (few_of cs h.1)

of_template : (t : Template) → is_sound_template t ≡ true → Sound (conditions.Template t)
of_template t h = ap is_sound_condition (sym (conditions.rolls-Template t)) ∙ sound_at (Condition-F.Template t) ∙ h

of_trigger : (ids : List (List ℕ)) → is_short ids ≡ true → Sound (conditions.Trigger ids)
of_trigger ids h = ap is_sound_condition (sym (conditions.rolls-Trigger ids)) ∙ sound_at (Condition-F.Trigger ids) ∙ h

-- ---- rules that hold no conditions

module _ (line : ℕ) (ps : List Pair) (s : AreSoundPairs ps) where
  state_sound : Holds Sound (state_rule line ps)
  state_sound =
      finish
      (with (known (Passes is_short) (need key.EntityId line ps entities) (of_need (Passes is_short) entities short_entities key.EntityId line ps s))
      (with (known (Passes is_short) (need key.State line ps texts) (of_need (Passes is_short) texts short_texts key.State line ps s))
      (with (unknown (get key.Attribute ps text)) (unknown (get key.For ps span)))))
      Sound made_state
      (λ x h. ap is_sound_condition (sym (conditions.rolls-State x.0 x.1.1.0 x.1.0 x.1.1.1)) ∙ sound_at (Condition-F.State x.0 x.1.1.0 x.1.0 x.1.1.1)
      ∙ pair (is_short x.0) (is_short x.1.0) h.0 h.1.0)

  numeric_sound : Holds Sound (numeric_rule line ps)
  numeric_sound =
      finish
      (with (unknown (unless (one_of line (row key.Above ∷ row key.Below ∷ []) ps)))
      (with (known (Passes is_short) (need key.EntityId line ps entities) (of_need (Passes is_short) entities short_entities key.EntityId line ps s))
      (with (unknown (get key.Attribute ps text))
      (with (known (IfThere (Passes is_in_range)) (get key.Above ps number) (of_get (Passes is_in_range) number ranged_number key.Above ps s))
      (known (IfThere (Passes is_in_range)) (get key.Below ps number) (of_get (Passes is_in_range) number ranged_number key.Below ps s))))))
      Sound made_numeric
      (λ x h. ap is_sound_condition (sym (conditions.rolls-Numeric x.1.0 x.1.1.0 x.1.1.1.0 x.1.1.1.1)) ∙ sound_at (Condition-F.Numeric x.1.0 x.1.1.0 x.1.1.1.0 x.1.1.1.1)
      ∙ pair (is_short x.1.0 && if_there is_in_range x.1.1.1.0) (if_there is_in_range x.1.1.1.1)
      (pair (is_short x.1.0) (if_there is_in_range x.1.1.1.0) h.1.0 (there is_in_range x.1.1.1.0 h.1.1.1.0)) (there is_in_range x.1.1.1.1 h.1.1.1.1))

  -- any number of a list passes this
  any_day : Reads (Passes (λ (d : ℕ). true)) weekday
  any_day line' n k = weaker Anything (Passes (λ (d : ℕ). true)) (weekday line' n) (λ d h. refl) (anything (weekday line' n))

  short_days : (o : Option (List ℕ)) → IfThere (AllOf (λ (d : ℕ). true) most) o → if_there is_short o ≡ true
  short_days None h = refl
  short_days (Some ds) h = short_most ds h.1

  time_sound : Holds Sound (time_rule line ps)
  time_sound =
      finish
      (with (unknown (unless (one_of line (row key.After ∷ row key.Before ∷ row key.Weekday ∷ []) ps)))
      (with (known (IfThere (Passes is_second_of_day)) (get key.After ps time) (of_get (Passes is_second_of_day) time time_in_day key.After ps s))
      (with (known (IfThere (Passes is_second_of_day)) (get key.Before ps time) (of_get (Passes is_second_of_day) time time_in_day key.Before ps s))
      (known (IfThere (AllOf (λ (d : ℕ). true) most)) (get key.Weekday ps (several weekday))
      (of_get (AllOf (λ (d : ℕ). true) most) (several weekday) (one_or_more (λ (d : ℕ). true) weekday any_day) key.Weekday ps s)))))
      Sound made_time
      (λ x h. ap is_sound_condition (sym (conditions.rolls-Time x.1.0 x.1.1.0 x.1.1.1)) ∙ sound_at (Condition-F.Time x.1.0 x.1.1.0 x.1.1.1)
      ∙ pair (if_there is_second_of_day x.1.0 && if_there is_second_of_day x.1.1.0) (if_there is_short x.1.1.1)
      (pair (if_there is_second_of_day x.1.0) (if_there is_second_of_day x.1.1.0) (there is_second_of_day x.1.0 h.1.0) (there is_second_of_day x.1.1.0 h.1.1.0)) (short_days x.1.1.1 h.1.1.1))

  template_sound : Holds Sound (template_rule line ps)
  template_sound =
      made_of (Passes is_sound_template) Sound conditions.Template (need key.ValueTemplate line ps template) of_template
      (of_need (Passes is_sound_template) template sound_template key.ValueTemplate line ps s)

  trigger_sound : Holds Sound (trigger_rule line ps)
  trigger_sound =
      made_of (Passes is_short) Sound conditions.Trigger (need key.Id line ps texts) of_trigger (of_need (Passes is_short) texts short_texts key.Id line ps s)

  -- ---- a map, by what the fields inside are

  abbrev InsideSound : Inside → Type 0
  InsideSound held = (r : Row) → Holds SoundList (held r)

  rule_sound : (k : ConditionKind) (held : Inside) → InsideSound held → Holds Sound (rule k line ps held)
  rule_sound ConditionKind.And held h = made_of SoundList Sound conditions.And (held (row key.Conditions)) of_and (h (row key.Conditions))
  rule_sound ConditionKind.Or held h = made_of SoundList Sound conditions.Or (held (row key.Conditions)) of_or (h (row key.Conditions))
  rule_sound ConditionKind.Not held h = made_of SoundList Sound conditions.Not (held (row key.Conditions)) of_not (h (row key.Conditions))
  rule_sound ConditionKind.State held h = state_sound
  rule_sound ConditionKind.Numeric held h = numeric_sound
  rule_sound ConditionKind.Template held h = template_sound
  rule_sound ConditionKind.Time held h = time_sound
  rule_sound ConditionKind.Trigger held h = trigger_sound

  abbrev IsSoundOne : Option Condition → Type 0
  IsSoundOne = IfThere (Passes is_sound_condition)

  enabled_sound : (b : Bool) (c : Condition) → Sound c → IsSoundOne (cond b (Some c) None)
  enabled_sound true c h = h
  enabled_sound false c h = tt

  keys_sound : (action : Bool) (own : List Row) (r : Read Condition) → Holds Sound r → Holds IsSoundOne (with_keys action own ps r)
  keys_sound action own r h =
      finish (with (unknown (keys (common_rows action ++ own) ps)) (with (unknown (goes_on action ps)) (with (unknown (get key.Enabled ps flag)) (known Sound r h))))
      IsSoundOne made_condition (λ x k. enabled_sound (unwrap_or x.1.1.0 true) x.1.1.1 k.1.1.1)

  name_sound : (action : Bool) (held : Inside) → InsideSound held → (r : Read ConditionKind) → Holds IsSoundOne (by_name action line ps held r)
  name_sound action held h (Ok k) = keys_sound action (kind_rows k) (rule k line ps held) (rule_sound k held h)
  name_sound action held h (Err f) = tt

  key_sound : (action : Bool) (held : Inside) → InsideSound held → (o : Option KindKey) → Holds IsSoundOne (by_key action line ps held o)
  key_sound action held h None = tt
  key_sound action held h (Some KindKey.ByName) = name_sound action held h (wanted code.UnknownKind named line (field (row key.Condition) ps))
  key_sound action held h (Some KindKey.ByAnd) =
      keys_sound action (row key.And ∷ []) (made conditions.And (held (row key.And))) (made_of SoundList Sound conditions.And (held (row key.And)) of_and (h (row key.And)))
  key_sound action held h (Some KindKey.ByOr) =
      keys_sound action (row key.Or ∷ []) (made conditions.Or (held (row key.Or))) (made_of SoundList Sound conditions.Or (held (row key.Or)) of_or (h (row key.Or)))
  key_sound action held h (Some KindKey.ByNot) =
      keys_sound action (row key.Not ∷ []) (made conditions.Not (held (row key.Not))) (made_of SoundList Sound conditions.Not (held (row key.Not)) of_not (h (row key.Not)))

  map_sound : (action : Bool) (held : Inside) → InsideSound held → Holds IsSoundOne (of_map action line ps held)
  map_sound action held h = key_sound action held h (kind_key ps)

-- ---- down the tree

abbrev pub IsSound : Option Condition → Type 0
IsSound = IfThere (Passes is_sound_condition)

abbrev pub AreSound : List Condition → Type 0
AreSound = SoundList

-- what a sound node is as one condition, and as a list of them
abbrev NodeSound : Node → Type 0
NodeSound n = IsSoundTree n → ((action : Bool) → Holds IsSound (condition action n)) × Holds SoundList (read_conditions n)

scalar_sound : (line : ℕ) (t : List ℕ) (plain : Bool) → Holds IsSound (scalar_rule line t plain)
scalar_sound line t plain =
    either_way IsSound (plain && is_null_word t) (Err _) (made as_condition (template_by line (Some t))) tt
    (made_of (Passes is_sound_template) IsSound as_condition (template_by line (Some t)) of_template (sound_template_text line t))

field_at : (line : ℕ) (o : Option Pair) → IfThere (λ (p : Pair). IsSoundPair p × NodeSound p.2) o → Holds SoundList (all_at line o)
field_at line None h = tt
field_at line (Some p) h = (h.1 h.0.0).1

both_each : (ps : List Pair) → Each IsSoundPair ps → Each (λ (p : Pair). NodeSound p.2) ps → Each (λ (p : Pair). IsSoundPair p × NodeSound p.2) ps
both_each [] s h = tt
both_each (p ∷ ps) s h = ((s.0, h.0), both_each ps s.1 h.1)

inside_sound : (line : ℕ) (ps : List Pair) → AreSoundPairs ps → Each (λ (p : Pair). NodeSound p.2) ps → (r : Row) → Holds SoundList (inside line ps r)
inside_sound line ps s h r = field_at line (field r ps) (found_each (λ (p : Pair). IsSoundPair p × NodeSound p.2) _ ps (both_each ps s.each h))

one_sound : (action : Bool) (line : ℕ) (shape : Shape) → IsSoundShape shape → EachInside NodeSound shape → Holds IsSound (one_by action line shape)
one_sound action line (NodeKind-F.Scalar t plain) s h = scalar_sound line t plain
one_sound action line (NodeKind-F.List items) s h = tt
one_sound action line (NodeKind-F.Map pairs) s h = map_sound line pairs s action (inside line pairs) (inside_sound line pairs s h)

items_sound : (ns : List Node) → Each IsSoundTree ns → Each NodeSound ns → Each (λ n. Holds IsSound (condition false n)) ns
items_sound [] s h = tt
items_sound (n ∷ ns) s h = ((h.0 s.0).0 false, items_sound ns s.1 h.1)

all_of : (one : Read (Option Condition)) (shape : Shape) → IsSoundShape shape → EachInside NodeSound shape → Holds IsSound one → Holds SoundList (all_by one shape)
all_of one (NodeKind-F.Scalar t plain) s h k =
    either_way SoundList (plain && is_null_word t) (Ok []) (alone one) (refl, omega arith) (grown is_sound_condition 1 most (alone one) (omega arith) (alone_of is_sound_condition one k))
all_of one (NodeKind-F.List items) s h k =
    grown is_sound_condition (length items) most (kept (condition false) items) (let few = s.few in omega arith)
    (kept_items is_sound_condition (condition false) items (items_sound items s.each h))
all_of one (NodeKind-F.Map pairs) s h k = grown is_sound_condition 1 most (alone one) (omega arith) (alone_of is_sound_condition one k)

node_sound : (n : Node) → NodeSound n
node_sound = down NodeSound (λ n h s.
    let one = λ (action : Bool). subst (Holds IsSound) (sym (one-out action n)) (one_sound action (line_of n) (shape_of n) (sound_inside n s) h) in
    (one, subst (Holds SoundList) (sym (all-out n)) (all_of (condition false n) (shape_of n) (sound_inside n s) h (one false))))

pub condition_sound : (action : Bool) (n : Node) → IsSoundTree n → Holds IsSound (condition action n)
condition_sound action n s = (node_sound n s).0 action

pub conditions_sound : (n : Node) → IsSoundTree n → Holds (λ cs. are_sound_conditions cs ≡ true) (read_conditions n)
conditions_sound n s =
    weaker SoundList (λ cs. are_sound_conditions cs ≡ true) (read_conditions n) (λ cs k. all_passed is_sound_condition cs k.0 (few_of cs k.1)) ((node_sound n s).1)

each_node_sound : (ps : List Pair) → Each (λ (p : Pair). NodeSound p.2) ps
each_node_sound [] = tt
each_node_sound (p ∷ ps) = (node_sound p.2, each_node_sound ps)

-- a map of sound nodes as one condition
pub condition_map_sound : (action : Bool) (line : ℕ) (ps : List Pair) → AreSoundPairs ps → Holds IsSound (condition_map action line ps)
condition_map_sound action line ps s = map_sound line ps s action (inside line ps) (inside_sound line ps s (each_node_sound ps))
