-- The triggers that are read of a sound tree are sound.
use Rattle.std.proofs.Common.{◌≡◌, subst, refl, ℕ, ◌+◌, ◌*◌, ◌-◌, ◌≤◌, ◌<◌, Bool, true, false, cond, List, [], ◌∷◌, length, Option, Some, None, Ok, Err, arith}
use Rattle.std.specs.Prelude.{◌&&◌, ◌||◌, ◌==◌, nat_lt, nat_le, is_some, unwrap_or, decimal, option_map, bytes_eq, codes}
use Rattle.std.specs.Char.{is_ascii_digit}
use Rattle.std.proofs.lemmas.Bool.{and_parts, eqb-false, leb-true, le-leb, lt-ltb}
use Rattle.ha_value.specs.declared.value.Value.{Value}
use Rattle.ha_clock.specs.SpanText.{number_from, number_of}
use Rattle.ha_config.specs.declared.config.Match.{Match}
use Rattle.ha_config.specs.declared.config.Trigger.{Trigger}
use Rattle.ha_config.specs.declared.config.TriggerRule.{TriggerRule}
use Rattle.ha_config.specs.declared.config.Unit as unit
use Rattle.ha_config.specs.ValueFacts.{are_sound_pairs}
use Rattle.ha_config.specs.Sound.{all_short, are_sound_triggers, has_short_lists, if_there, is_second_of_day, is_short, is_sound_match, is_sound_rule, is_sound_template, is_sound_trigger, is_sound_unit, may_hold}
use Rattle.ha_config.specs.Numbers.{is_in_range}
use Rattle.yaml_scan.specs.declared.fault.Code.TheVariants as code
use Rattle.yaml_tree.specs.declared.node.Node.{Node}
use Rattle.yaml_tree.specs.declared.node.NodeKind.TheOpen.{NodeKind-F}
use Rattle.yaml_tree.specs.Readers.{Shape, line_of, shape_of, is_null}
use Rattle.conf_field.specs.declared.key.Key.TheVariants as key
use Rattle.conf_field.specs.declared.table.Row.{Row}
use Rattle.conf_field.specs.Holds.{Holds, Each, IfThere}
use Rattle.conf_field.specs.Readings.{Read, made, keep, unless}
use Rattle.conf_field.specs.Fields.{Pair, field, get, keys, need, one_of, optional, row}
use Rattle.conf_field.specs.Kinds.{entities, flag, number, several, template, text, texts, time}
use Rattle.conf_field.specs.Spans.{span}
use Rattle.conf_field.specs.Values.{data_without_templates}
use Rattle.conf_field.specs.Sizes.{IsSoundTree}
use Rattle.conf_trigger.specs.declared.kind.TriggerKind.{TriggerKind}
use Rattle.conf_trigger.specs.Triggers.{Rule, at_most, below_limit, by_kind, divisor, event_rule, excluded, hold, kind, listed, made_event, made_numeric, made_pattern, made_side, made_start, made_state, made_template, made_time, made_trigger, match_of, none_of_texts, numeric_rule, of_kind, pattern_of, pattern_rule, rows, rule, side, small_number, some_span, start, start_rule, state_rule, template_rule, texts_or_any, time_rule, trigger, trigger_by, triggers, triggers_by, triggers_from, unit_of, unit_or, unit_under}
use Rattle.conf_laws.proofs.Joined.{all_passed, pair}
use Rattle.conf_laws.proofs.Down.{AreSoundPairs, IsSoundShape, most, sound_inside}
use Rattle.conf_laws.proofs.Parts.{AllOf, Anything, Known, Passes, Reads, anything, either_way, finish, grown, keep_one, known, made_of, of_get, of_need, of_optional, of_scalar, one_or_more, field_sound, there, unknown, with}
use Rattle.conf_laws.proofs.KindLaws.{ranged_number, short_entities, short_texts, time_in_day}
use Rattle.conf_laws.proofs.Templates.{sound_template}
use Rattle.conf_laws.proofs.Data.{data_plain, is_plain_data}

-- ---- a hold, which is over 0

abbrev IsOver0 : Option ℕ → Type 0
IsOver0 o = if_there (nat_lt 0) o ≡ true

over_0 : (n : ℕ) (b : Bool) → (n == 0) ≡ b → IsOver0 (cond b None (Some n))
over_0 n true e = refl
over_0 n false e = lt-ltb 0 n (let apart : n ≡ 0 → ⊥ = eqb-false n 0 e in omega arith)

span_over_0 : (o : Option ℕ) → IsOver0 (some_span o)
span_over_0 None = refl
span_over_0 (Some n) = over_0 n (n == 0) refl

abbrev known_hold : (ps : List Pair) → Known (Option ℕ)
known_hold ps = known IsOver0 (hold ps) (made_of Anything IsOver0 some_span (get key.For ps span) (λ o k. span_over_0 o) (anything (get key.For ps span)))

abbrev IsSoundRule : Rule → Type 0
IsSoundRule r = (is_sound_rule r.0 ≡ true) × (if_there (λ d. nat_lt 0 d && may_hold r.0) r.1 ≡ true)

held : (b : Bool) (o : Option ℕ) → b ≡ true → IsOver0 o → if_there (λ d. nat_lt 0 d && b) o ≡ true
held b None e h = refl
held b (Some d) e h = pair (nat_lt 0 d) b h e

-- ---- sides

any_sound : Reads (Passes is_sound_match) texts_or_any
any_sound line n s =
    either_way (Passes is_sound_match) (is_null n) (Ok Match.Any) (made Match.OneOf (texts line n)) refl
    (made_of (Passes is_short) (Passes is_sound_match) Match.OneOf (texts line n) (λ ts k. k) (short_texts line n s))

others_sound : Reads (Passes is_sound_match) none_of_texts
others_sound line n s = made_of (Passes is_short) (Passes is_sound_match) Match.NoneOf (texts line n) (λ ts k. k) (short_texts line n s)

match_sound : (a b : Option Match) → IfThere (Passes is_sound_match) a → IfThere (Passes is_sound_match) b → is_sound_match (match_of a b) ≡ true
match_sound None None h k = refl
match_sound (Some m) None h k = h
match_sound None (Some m) h k = k
match_sound (Some m) (Some other) h k = k

side_sound : (a b : Row) (ps : List Pair) → AreSoundPairs ps → Holds (Passes is_sound_match) (side a b ps)
side_sound a b ps s =
    finish
    (with (unknown (unless (excluded a b ps)))
    (with (known (IfThere (Passes is_sound_match)) (optional texts_or_any (field a ps)) (of_optional (Passes is_sound_match) texts_or_any any_sound (field a ps) (field_sound a ps s)))
    (known (IfThere (Passes is_sound_match)) (optional none_of_texts (field b ps)) (of_optional (Passes is_sound_match) none_of_texts others_sound (field b ps) (field_sound b ps s)))))
    (Passes is_sound_match) made_side (λ x h. match_sound x.1.0 x.1.1 h.1.0 h.1.1)

abbrev known_side : (a b : Row) (ps : List Pair) → AreSoundPairs ps → Known Match
known_side a b ps s = known (Passes is_sound_match) (side a b ps) (side_sound a b ps s)

-- ---- units

number_grows : (n m : ℕ) (t : List ℕ) → number_from n t ≡ Some m → n ≤ m
unfolding number_from
number_grows n m [] e = let same : n ≡ m = cc in omega arith
number_grows n m (b ∷ t) e = by (is_ascii_digit b) (number_from (n * 10 + (b - 48)) t) (number_grows (n * 10 + (b - 48)) m t) e
  where
    by : (d : Bool) (o : Option ℕ) → (o ≡ Some m → n * 10 + (b - 48) ≤ m) → cond d o None ≡ Some m → n ≤ m
    by true o h k = omega (arith, h k)
    by false o h k = cc

at_least_1 : (a n : ℕ) (rest : List ℕ) → (a == 48) ≡ false → number_of (a ∷ rest) ≡ Some n → 1 ≤ n
unfolding number_of number_from
at_least_1 a n rest e h = by (is_ascii_digit a) refl h
  where
    by : (d : Bool) → is_ascii_digit a ≡ d → cond d (number_from (0 * 10 + (a - 48)) rest) None ≡ Some n → 1 ≤ n
    by true k l =
        let apart : a ≡ 48 → ⊥ = eqb-false a 48 e in
        let p = and_parts (nat_le 48 a) (nat_le a 57) k in
        omega (arith, number_grows (0 * 10 + (a - 48)) n rest l, leb-true 48 a p.0)
    by false k l = cc

limit_kept : (o : Option ℕ) (n : ℕ) → below_limit o ≡ Some n → o ≡ Some n
limit_kept None n h = cc
limit_kept (Some m) n h = by (nat_le m 4_294_967_295) h
  where
    by : (b : Bool) → cond b (Some m) None ≡ Some n → Some m ≡ Some n
    by true k = k
    by false k = cc

divisor_sound : (t : List ℕ) (n : ℕ) → divisor t ≡ Some n → 1 ≤ n
divisor_sound [] n h = cc
divisor_sound (a ∷ rest) n h = by (a == 48) refl h
  where
    by : (b : Bool) → (a == 48) ≡ b → cond b None (below_limit (number_of (a ∷ rest))) ≡ Some n → 1 ≤ n
    by true e k = cc
    by false e k = at_least_1 a n rest e (limit_kept (number_of (a ∷ rest)) n k)

each_sound : (o : Option ℕ) (u : unit.Unit) → ((n : ℕ) → o ≡ Some n → 1 ≤ n) → option_map unit.Unit.Each o ≡ Some u → is_sound_unit u ≡ true
each_sound None u h k = cc
each_sound (Some n) u h k = let same : unit.Unit.Each n ≡ u = cc in subst (λ x. is_sound_unit x ≡ true) same (le-leb 1 n (h n refl))

exact_sound : (o : Option ℕ) (u : unit.Unit) → option_map unit.Unit.Exact o ≡ Some u → is_sound_unit u ≡ true
exact_sound None u k = cc
exact_sound (Some n) u k = let same : unit.Unit.Exact n ≡ u = cc in subst (λ x. is_sound_unit x ≡ true) same refl

unit_sound : (limit : ℕ) (t : List ℕ) (u : unit.Unit) → unit_of limit t ≡ Some u → is_sound_unit u ≡ true
unit_sound limit [] u h = cc
unit_sound limit (b ∷ rest) u h = by (bytes_eq (b ∷ rest) (codes "*")) (b == 47) h
  where
    by : (p q : Bool) → cond p (Some unit.Unit.Every) (cond q (option_map unit.Unit.Each (divisor rest)) (option_map unit.Unit.Exact (small_number limit (b ∷ rest)))) ≡ Some u → is_sound_unit u ≡ true
    by true q k = let same : unit.Unit.Every ≡ u = cc in subst (λ x. is_sound_unit x ≡ true) same refl
    by false true k = each_sound (divisor rest) u (divisor_sound rest) k
    by false false k = exact_sound (small_number limit (b ∷ rest)) u k

unit_reads : (limit : ℕ) → Reads (Passes is_sound_unit) (unit_under limit)
unit_reads limit line n s = of_scalar (Passes is_sound_unit) code.Time (unit_of limit) (unit_sound limit) line n

default_sound : (larger : Bool) (o : Option unit.Unit) → IfThere (Passes is_sound_unit) o → is_sound_unit (unit_or larger o) ≡ true
default_sound larger (Some u) h = h
default_sound true None h = refl
default_sound false None h = refl

-- ---- rules

module _ (line : ℕ) (ps : List Pair) (s : AreSoundPairs ps) where
  state_sound : Holds IsSoundRule (state_rule line ps)
  state_sound =
      finish
      (with (known (Passes is_short) (need key.EntityId line ps entities) (of_need (Passes is_short) entities short_entities key.EntityId line ps s))
      (with (unknown (get key.Attribute ps text))
      (with (known_side (row key.From) (row key.NotFrom) ps s) (with (known_side (row key.To) (row key.NotTo) ps s) (known_hold ps)))))
      IsSoundRule made_state
      (λ x h. (pair (is_short x.0 && is_sound_match x.1.1.0) (is_sound_match x.1.1.1.0) (pair (is_short x.0) (is_sound_match x.1.1.0) h.0 h.1.1.0) h.1.1.1.0, held true x.1.1.1.1 refl h.1.1.1.1))

  numeric_sound : Holds IsSoundRule (numeric_rule line ps)
  numeric_sound =
      finish
      (with (unknown (unless (one_of line (row key.Above ∷ row key.Below ∷ []) ps)))
      (with (known (Passes is_short) (need key.EntityId line ps entities) (of_need (Passes is_short) entities short_entities key.EntityId line ps s))
      (with (unknown (get key.Attribute ps text))
      (with (known (IfThere (Passes is_in_range)) (get key.Above ps number) (of_get (Passes is_in_range) number ranged_number key.Above ps s))
      (with (known (IfThere (Passes is_in_range)) (get key.Below ps number) (of_get (Passes is_in_range) number ranged_number key.Below ps s)) (known_hold ps))))))
      IsSoundRule made_numeric
      (λ x h. (
        pair (is_short x.1.0 && if_there is_in_range x.1.1.1.0) (if_there is_in_range x.1.1.1.1.0)
            (pair (is_short x.1.0) (if_there is_in_range x.1.1.1.0) h.1.0 (there is_in_range x.1.1.1.0 h.1.1.1.0)) (there is_in_range x.1.1.1.1.0 h.1.1.1.1.0),
        held true x.1.1.1.1.1 refl h.1.1.1.1.1,
      ))

  event_parts : (kinds : List (List ℕ)) (o : Option (List (List ℕ × Value))) → is_short kinds ≡ true → IfThere (Passes is_plain_data) o → is_sound_rule (TriggerRule.Event kinds (unwrap_or o [])) ≡ true
  event_parts kinds None h k = pair (is_short kinds && true) true (pair (is_short kinds) true h refl) refl
  event_parts kinds (Some d) h k =
      let two = and_parts (are_sound_pairs d) (all_short (λ p. has_short_lists p.1) d) k in
      pair (is_short kinds && are_sound_pairs d) (all_short (λ p. has_short_lists p.1) d) (pair (is_short kinds) (are_sound_pairs d) h two.0) two.1

  event_sound : Holds IsSoundRule (event_rule line ps)
  event_sound =
      finish
      (with (known (Passes is_short) (need key.EventType line ps texts) (of_need (Passes is_short) texts short_texts key.EventType line ps s))
      (known (IfThere (Passes is_plain_data)) (get key.EventData ps data_without_templates) (of_get (Passes is_plain_data) data_without_templates data_plain key.EventData ps s)))
      IsSoundRule made_event (λ x h. (event_parts x.0 x.1 h.0 h.1, refl))

  time_sound : Holds IsSoundRule (time_rule line ps)
  time_sound =
      made_of (AllOf is_second_of_day most) IsSoundRule made_time (need key.At line ps (several time))
      (λ seconds k. (all_passed is_second_of_day seconds k.0 (omega (arith, k.1)), refl))
      (of_need (AllOf is_second_of_day most) (several time) (one_or_more is_second_of_day time time_in_day) key.At line ps s)

  pattern_parts : (h m t : Option unit.Unit) → IfThere (Passes is_sound_unit) h → IfThere (Passes is_sound_unit) m → IfThere (Passes is_sound_unit) t → is_sound_rule (pattern_of h m t) ≡ true
  pattern_parts h m t p q r =
      let a = unit_or false h in
      let b = unit_or (is_some h) m in
      let c = unit_or (is_some h || is_some m) t in
      pair (is_sound_unit a && is_sound_unit b) (is_sound_unit c) (pair (is_sound_unit a) (is_sound_unit b) (default_sound false h p) (default_sound (is_some h) m q)) (default_sound (is_some h || is_some m) t r)

  pattern_sound : Holds IsSoundRule (pattern_rule line ps)
  pattern_sound =
      finish
      (with (unknown (unless (one_of line (row key.Hours ∷ row key.Minutes ∷ row key.Seconds ∷ []) ps)))
      (with (known (IfThere (Passes is_sound_unit)) (get key.Hours ps (unit_under 24)) (of_get (Passes is_sound_unit) (unit_under 24) (unit_reads 24) key.Hours ps s))
      (with (known (IfThere (Passes is_sound_unit)) (get key.Minutes ps (unit_under 60)) (of_get (Passes is_sound_unit) (unit_under 60) (unit_reads 60) key.Minutes ps s))
      (known (IfThere (Passes is_sound_unit)) (get key.Seconds ps (unit_under 60)) (of_get (Passes is_sound_unit) (unit_under 60) (unit_reads 60) key.Seconds ps s)))))
      IsSoundRule made_pattern (λ x h. (pattern_parts x.1.0 x.1.1.0 x.1.1.1 h.1.0 h.1.1.0 h.1.1.1, refl))

  template_rule_sound : Holds IsSoundRule (template_rule line ps)
  template_rule_sound =
      finish
      (with (known (Passes is_sound_template) (need key.ValueTemplate line ps template) (of_need (Passes is_sound_template) template sound_template key.ValueTemplate line ps s)) (known_hold ps))
      IsSoundRule made_template (λ x h. (h.0, held true x.1 refl h.1))

  start_sound : Holds IsSoundRule (start_rule line ps)
  start_sound = made_of Anything IsSoundRule made_start (need key.Event line ps start) (λ x k. (refl, refl)) (anything (need key.Event line ps start))

  rule_sound : (k : TriggerKind) → Holds IsSoundRule (rule k line ps)
  rule_sound TriggerKind.State = state_sound
  rule_sound TriggerKind.Numeric = numeric_sound
  rule_sound TriggerKind.Event = event_sound
  rule_sound TriggerKind.Time = time_sound
  rule_sound TriggerKind.Pattern = pattern_sound
  rule_sound TriggerKind.Template = template_rule_sound
  rule_sound TriggerKind.Start = start_sound

  -- ---- a trigger

  abbrev IsSoundOne : Option Trigger → Type 0
  IsSoundOne = IfThere (Passes is_sound_trigger)

  built : (idx : ℕ) (id : Option (List ℕ)) (b : Bool) (r : Rule) → IsSoundRule r → IsSoundOne (cond b (Some (record { id = unwrap_or id (decimal idx); idx = idx; rule = r.0; hold = r.1 })) None)
  built idx id true r h = pair (is_sound_rule r.0) (if_there (λ d. nat_lt 0 d && may_hold r.0) r.1) h.0 h.1
  built idx id false r h = tt

  of_kind_sound : (idx : ℕ) (k : TriggerKind) → Holds IsSoundOne (of_kind idx line ps k)
  of_kind_sound idx k =
      finish
      (with (unknown (keys (rows k) ps)) (with (unknown (get key.Id ps text)) (with (unknown (get key.Enabled ps flag)) (known IsSoundRule (rule k line ps) (rule_sound k)))))
      IsSoundOne (made_trigger idx) (λ x h. built idx x.1.0 (unwrap_or x.1.1.0 true) x.1.1.1 h.1.1.1)

  by_kind_sound : (idx : ℕ) (r : Read TriggerKind) → Holds IsSoundOne (by_kind idx line ps r)
  by_kind_sound idx (Ok k) = of_kind_sound idx k
  by_kind_sound idx (Err f) = tt

abbrev IsSoundTrigger : Option Trigger → Type 0
IsSoundTrigger = IfThere (Passes is_sound_trigger)

shape_sound : (idx line : ℕ) (shape : Shape) → IsSoundShape shape → Holds IsSoundTrigger (trigger_by idx line shape)
shape_sound idx line (NodeKind-F.Scalar t plain) s = tt
shape_sound idx line (NodeKind-F.List items) s = tt
shape_sound idx line (NodeKind-F.Map pairs) s = by_kind_sound line pairs s idx (kind line pairs)

trigger_sound : (idx : ℕ) (n : Node) → IsSoundTree n → Holds IsSoundTrigger (trigger idx n)
trigger_sound idx n s = shape_sound idx (line_of n) (shape_of n) (sound_inside n s)

-- ---- lists of them

from_sound : (idx count : ℕ) (before : Read (List Trigger)) (ns : List Node) → Holds (AllOf is_sound_trigger count) before → Each IsSoundTree ns → Holds (AllOf is_sound_trigger (count + length ns)) (triggers_from idx before ns)
unfolding triggers_from
from_sound idx count before [] h s = grown is_sound_trigger count (count + 0) before (omega arith) h
from_sound idx count before (n ∷ ns) h s =
    grown is_sound_trigger (count + 1 + length ns) (count + length (n ∷ ns)) (triggers_from (idx + 1) (keep before (trigger idx n)) ns) (omega arith)
    (from_sound (idx + 1) (count + 1) (keep before (trigger idx n)) ns (keep_one is_sound_trigger count before (trigger idx n) h (trigger_sound idx n s.0)) s.1)

abbrev pub AreSound : List Trigger → Type 0
AreSound ts = are_sound_triggers ts ≡ true

list_sound : (ns : List Node) → length ns < most → Each IsSoundTree ns → Holds AreSound (listed ns)
list_sound ns few s =
    finish
    (with (unknown (unless (at_most 64 ns))) (known (AllOf is_sound_trigger (0 + length ns)) (triggers_from 0 (Ok []) ns) (from_sound 0 0 (Ok []) ns (refl, omega arith) s)))
    AreSound (λ x. x.1) (λ x h. all_passed is_sound_trigger x.1 h.1.0 (omega (arith, h.1.1, few)))

all_sound : (n : Node) (shape : Shape) → IsSoundTree n → IsSoundShape shape → Holds AreSound (triggers_by n shape)
all_sound n (NodeKind-F.Scalar t plain) s k = either_way AreSound (is_null n) (Ok []) (listed (n ∷ [])) refl (list_sound (n ∷ []) (omega arith) (s, tt))
all_sound n (NodeKind-F.List items) s k = list_sound items k.few k.each
all_sound n (NodeKind-F.Map pairs) s k = list_sound (n ∷ []) (omega arith) (s, tt)

pub triggers_sound : (n : Node) → IsSoundTree n → Holds AreSound (triggers n)
triggers_sound n s = all_sound n (shape_of n) s (sound_inside n s)
