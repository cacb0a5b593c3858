-- Triggers: each kind with its table of keys, and what its fields are.
use Rattle.std.specs.Prelude.{ℕ, ◌+◌, ◌-◌, ◌==◌, ◌||◌, Bool, true, false, nat_lt, nat_le}
use Rattle.std.specs.Prelude.{if◌then◌else◌, List, [], ◌∷◌, ◌++◌, Option, Some, None, Ok, Err}
use Rattle.std.specs.Prelude.{option_map, option_and_then, is_some, unwrap_or, bytes_eq, codes, decimal}
use Rattle.std.specs.List.{find, slice_get}
use Rattle.ha_value.specs.declared.value.EntityId.{EntityId}
use Rattle.ha_value.specs.declared.value.Num.{Num}
use Rattle.ha_value.specs.declared.value.Value.{Value}
use Rattle.ha_clock.specs.SpanText.{number_of}
use Rattle.ha_config.specs.declared.config.Match.{Match}
use Rattle.ha_config.specs.declared.config.Trigger.{Trigger}
use Rattle.ha_config.specs.declared.config.TriggerRule.{TriggerRule}
use Rattle.ha_config.specs.declared.config.Unit as unit
use Rattle.ha_config.specs.declared.template.Template.{Template}
use Rattle.yaml_scan.specs.declared.fault.Fault.{Fault}
use Rattle.yaml_scan.specs.declared.fault.Code.TheVariants as code
use Rattle.yaml_tree.specs.declared.node.Node.{Node}
use Rattle.yaml_tree.specs.declared.node.NodeKind.TheOpen.{NodeKind-F}
use Rattle.yaml_tree.specs.Readers.{Shape, line_of, shape_of, is_null}
use Rattle.conf_field.specs.declared.key.Key.TheVariants as key
use Rattle.conf_field.specs.declared.table.Row.{Row}
use Rattle.conf_field.specs.Readings.{Read, fault, bad, both, made, unless, keep}
use Rattle.conf_field.specs.Fields.{Meaning, Pair, row, either, field, get, keys, names, need, one_of, optional, wanted}
use Rattle.conf_field.specs.Kinds.{in_scalar, several, text, texts, entities, flag, number, time, template}
use Rattle.conf_field.specs.Spans.{span}
use Rattle.conf_field.specs.Values.{data_without_templates}
use Rattle.conf_trigger.specs.declared.kind.TriggerKind.{TriggerKind}

-- ---- kinds and their tables of keys

abbrev pub kind_text : TriggerKind → List ℕ
kind_text TriggerKind.State = codes "state"
kind_text TriggerKind.Numeric = codes "numeric_state"
kind_text TriggerKind.Event = codes "event"
kind_text TriggerKind.Time = codes "time"
kind_text TriggerKind.Pattern = codes "time_pattern"
kind_text TriggerKind.Template = codes "template"
kind_text TriggerKind.Start = codes "homeassistant"

abbrev pub all_kinds : List TriggerKind
all_kinds =
    TriggerKind.State ∷ TriggerKind.Numeric ∷ TriggerKind.Event ∷ TriggerKind.Time
    ∷ TriggerKind.Pattern ∷ TriggerKind.Template ∷ TriggerKind.Start ∷ []

abbrev pub kind_named : List ℕ → Option TriggerKind
kind_named t = find (λ k. bytes_eq (kind_text k) t) all_kinds

abbrev pub kind_row : Row
kind_row = either key.Trigger key.Platform

-- every trigger has these
abbrev pub common_rows : List Row
common_rows = kind_row ∷ row key.Id ∷ row key.Alias ∷ row key.Enabled ∷ []

abbrev pub own_rows : TriggerKind → List Row
own_rows TriggerKind.State =
    row key.EntityId ∷ row key.From ∷ row key.To ∷ row key.NotFrom ∷ row key.NotTo ∷ row key.Attribute ∷ row key.For ∷ []
own_rows TriggerKind.Numeric = row key.EntityId ∷ row key.Above ∷ row key.Below ∷ row key.Attribute ∷ row key.For ∷ []
own_rows TriggerKind.Event = row key.EventType ∷ row key.EventData ∷ []
own_rows TriggerKind.Time = row key.At ∷ []
own_rows TriggerKind.Pattern = row key.Hours ∷ row key.Minutes ∷ row key.Seconds ∷ []
own_rows TriggerKind.Template = row key.ValueTemplate ∷ row key.For ∷ []
own_rows TriggerKind.Start = row key.Event ∷ []

abbrev pub rows : TriggerKind → List Row
rows k = common_rows ++ own_rows k

-- the kind that a map names; where it has no kind key, the fault stands at the map's line
abbrev pub named : Meaning TriggerKind
named = in_scalar code.UnknownKind kind_named

abbrev pub kind : ℕ → List Pair → Read TriggerKind
kind line pairs = wanted code.UnknownKind named line (field kind_row pairs)

-- ---- fields of their own

-- a key that is there with null matches every text, as one that is not there
abbrev pub texts_or_any : Meaning Match
texts_or_any line n = if is_null n then Ok Match.Any else made Match.OneOf (texts line n)

abbrev pub match_of : Option Match → Option Match → Match
match_of m (Some other) = other
match_of (Some m) None = m
match_of None None = Match.Absent

-- of two keys that exclude each other, the later one is unknown
unfoldable pub later_of : Row → Row → List Pair → Option Pair
later_of a b [] = None
later_of a b (p ∷ ps) = if names a p.0 then field b ps else (if names b p.0 then field a ps else later_of a b ps)

abbrev pub excluded : Row → Row → List Pair → Option Fault
excluded a b pairs = option_map (λ p. fault p.1 code.UnknownKey) (later_of a b pairs)

abbrev pub made_side : Unit {0} × (Option Match × Option Match) → Match
made_side x = match_of x.1.0 x.1.1

abbrev pub none_of_texts : Meaning Match
none_of_texts line n = made Match.NoneOf (texts line n)

-- one side of a state trigger
abbrev pub side : Row → Row → List Pair → Read Match
side plain negated pairs =
    made made_side
    (both (unless (excluded plain negated pairs))
    (both (optional texts_or_any (field plain pairs)) (optional none_of_texts (field negated pairs))))

-- a hold of 0 is none
abbrev pub some_span : Option ℕ → Option ℕ
some_span None = None
some_span (Some n) = if n == 0 then None else Some n

abbrev pub hold : List Pair → Read (Option ℕ)
hold pairs = made some_span (get key.For pairs span)

-- a number below this without leading zeros, of one or two digits
abbrev pub small_number : ℕ → List ℕ → Option ℕ
small_number most [] = None
small_number most (a ∷ []) = number_of (a ∷ [])
small_number most (a ∷ b ∷ []) =
    if a == 48 then None else option_and_then (λ n. if nat_lt n most then Some n else None) (number_of (a ∷ b ∷ []))
small_number most (a ∷ b ∷ c ∷ rest) = None

-- digits that do not begin with 0, below 2^32
abbrev pub below_limit : Option ℕ → Option ℕ
below_limit None = None
below_limit (Some n) = if nat_le n 4_294_967_295 then Some n else None

abbrev pub divisor : List ℕ → Option ℕ
divisor [] = None
divisor (a ∷ rest) = if a == 48 then None else below_limit (number_of (a ∷ rest))

abbrev pub unit_of : ℕ → List ℕ → Option unit.Unit
unit_of most [] = None
unit_of most (b ∷ rest) =
    if bytes_eq (b ∷ rest) (codes "*") then Some unit.Unit.Every
    else (if b == 47 then option_map unit.Unit.Each (divisor rest) else option_map unit.Unit.Exact (small_number most (b ∷ rest)))

abbrev pub unit_under : ℕ → Meaning unit.Unit
unit_under most = in_scalar code.Time (unit_of most)

-- a unit that is not there is 0 where a larger one is there, and else every number
abbrev pub unit_or : Bool → Option unit.Unit → unit.Unit
unit_or larger (Some u) = u
unit_or true None = unit.Unit.Exact 0
unit_or false None = unit.Unit.Every

abbrev pub pattern_of : Option unit.Unit → Option unit.Unit → Option unit.Unit → TriggerRule
pattern_of h m s = TriggerRule.Pattern (unit_or false h) (unit_or (is_some h) m) (unit_or (is_some h || is_some m) s)

abbrev pub is_start : List ℕ → Option (Unit {0})
is_start t = if bytes_eq t (codes "start") then Some tt else None

abbrev pub start : Meaning (Unit {0})
start = in_scalar code.UnknownKind is_start

-- ---- the kinds

-- what moves a trigger, and how long that has to stay
abbrev pub Rule : Type 0
Rule = TriggerRule × Option ℕ

abbrev pub at_once : TriggerRule → Rule
at_once r = (r, None)

abbrev pub made_state : List EntityId × (Option (List ℕ) × (Match × (Match × Option ℕ))) → Rule
made_state x = (TriggerRule.State x.0 x.1.0 x.1.1.0 x.1.1.1.0, x.1.1.1.1)

abbrev pub state_rule : ℕ → List Pair → Read Rule
state_rule line pairs =
    made made_state
    (both (need key.EntityId line pairs entities)
    (both (get key.Attribute pairs text)
    (both (side (row key.From) (row key.NotFrom) pairs)
    (both (side (row key.To) (row key.NotTo) pairs) (hold pairs)))))

abbrev pub made_numeric : Unit {0} × (List EntityId × (Option (List ℕ) × (Option Num × (Option Num × Option ℕ)))) → Rule
made_numeric x = (TriggerRule.Numeric x.1.0 x.1.1.0 x.1.1.1.0 x.1.1.1.1.0, x.1.1.1.1.1)

abbrev pub numeric_rule : ℕ → List Pair → Read Rule
numeric_rule line pairs =
    made made_numeric
    (both (unless (one_of line (row key.Above ∷ row key.Below ∷ []) pairs))
    (both (need key.EntityId line pairs entities)
    (both (get key.Attribute pairs text)
    (both (get key.Above pairs number)
    (both (get key.Below pairs number) (hold pairs))))))

abbrev pub made_event : List (List ℕ) × Option (List (List ℕ × Value)) → Rule
made_event x = at_once (TriggerRule.Event x.0 (unwrap_or x.1 []))

abbrev pub event_rule : ℕ → List Pair → Read Rule
event_rule line pairs =
    made made_event
    (both (need key.EventType line pairs texts) (get key.EventData pairs data_without_templates))

abbrev pub made_time : List ℕ → Rule
made_time seconds = at_once (TriggerRule.Time seconds)

abbrev pub time_rule : ℕ → List Pair → Read Rule
time_rule line pairs = made made_time (need key.At line pairs (several time))

abbrev pub made_pattern : Unit {0} × (Option unit.Unit × (Option unit.Unit × Option unit.Unit)) → Rule
made_pattern x = at_once (pattern_of x.1.0 x.1.1.0 x.1.1.1)

abbrev pub pattern_rule : ℕ → List Pair → Read Rule
pattern_rule line pairs =
    made made_pattern
    (both (unless (one_of line (row key.Hours ∷ row key.Minutes ∷ row key.Seconds ∷ []) pairs))
    (both (get key.Hours pairs (unit_under 24))
    (both (get key.Minutes pairs (unit_under 60)) (get key.Seconds pairs (unit_under 60)))))

abbrev pub made_template : Template × Option ℕ → Rule
made_template x = (TriggerRule.Template x.0, x.1)

abbrev pub template_rule : ℕ → List Pair → Read Rule
template_rule line pairs =
    made made_template (both (need key.ValueTemplate line pairs template) (hold pairs))

abbrev pub made_start : Unit {0} → Rule
made_start x = at_once TriggerRule.Start

abbrev pub start_rule : ℕ → List Pair → Read Rule
start_rule line pairs = made made_start (need key.Event line pairs start)

abbrev pub rule : TriggerKind → ℕ → List Pair → Read Rule
rule TriggerKind.State = state_rule
rule TriggerKind.Numeric = numeric_rule
rule TriggerKind.Event = event_rule
rule TriggerKind.Time = time_rule
rule TriggerKind.Pattern = pattern_rule
rule TriggerKind.Template = template_rule
rule TriggerKind.Start = start_rule

-- ---- a trigger, and lists of them

abbrev pub trigger_of : ℕ → Option (List ℕ) → Option Bool → Rule → Option Trigger
trigger_of idx id enabled r =
    if unwrap_or enabled true then Some (record { id = unwrap_or id (decimal idx); idx = idx; rule = r.0; hold = r.1 }) else None

-- A map of a known kind; none where it is disabled.
abbrev pub made_trigger : ℕ → Unit {0} × (Option (List ℕ) × (Option Bool × Rule)) → Option Trigger
made_trigger idx x = trigger_of idx x.1.0 x.1.1.0 x.1.1.1

abbrev pub of_kind : ℕ → ℕ → List Pair → TriggerKind → Read (Option Trigger)
of_kind idx line pairs k =
    made (made_trigger idx)
    (both (keys (rows k) pairs) (both (get key.Id pairs text) (both (get key.Enabled pairs flag) (rule k line pairs))))

-- Nothing in a map of an unknown kind is looked at.
abbrev pub by_kind : ℕ → ℕ → List Pair → Read TriggerKind → Read (Option Trigger)
by_kind idx line pairs (Ok k) = of_kind idx line pairs k
by_kind idx line pairs (Err f) = Err f

abbrev pub trigger_by : ℕ → ℕ → Shape → Read (Option Trigger)
trigger_by idx line (NodeKind-F.Scalar t plain) = bad line code.Kind
trigger_by idx line (NodeKind-F.List items) = bad line code.Kind
trigger_by idx line (NodeKind-F.Map pairs) = by_kind idx line pairs (kind line pairs)

abbrev pub trigger : ℕ → Node → Read (Option Trigger)
trigger idx n = trigger_by idx (line_of n) (shape_of n)

-- those that are enabled, with the index of the next
unfoldable pub triggers_from : ℕ → Read (List Trigger) → List Node → Read (List Trigger)
triggers_from idx before [] = before
triggers_from idx before (n ∷ ns) = triggers_from (idx + 1) (keep before (trigger idx n)) ns

-- at most so many: where there are more, the fault stands at the next one
abbrev pub at_most : ℕ → List Node → Option Fault
at_most most ns = option_map (λ n. fault (line_of n) code.Limit) (slice_get ns most)

abbrev pub listed : List Node → Read (List Trigger)
listed ns = made (λ x. x.1) (both (unless (at_most 64 ns)) (triggers_from 0 (Ok []) ns))

-- one trigger alone, a list of them, or null for none
abbrev pub triggers_by : Node → Shape → Read (List Trigger)
triggers_by n (NodeKind-F.Scalar t plain) = if is_null n then Ok [] else listed (n ∷ [])
triggers_by n (NodeKind-F.List items) = listed items
triggers_by n (NodeKind-F.Map pairs) = listed (n ∷ [])

abbrev pub triggers : Node → Read (List Trigger)
triggers n = triggers_by n (shape_of n)
