-- Helpers: what the values of the keys `input_boolean`, `counter` and `timer` are.
use Rattle.std.specs.Prelude.{ℕ, ℤ, pos, neg_ℤ, int_le, Bool, true, false, ◌&&◌, ◌==◌, if◌then◌else◌, List, [], ◌∷◌, ◌++◌}
use Rattle.std.specs.Prelude.{flat_map, slice_get, Option, Some, None, Ok, Err, option_map, option_and_then, unwrap_or, codes}
use Rattle.std.specs.List.{list_any}
use Rattle.ha_value.specs.Ids.{is_name}
use Rattle.ha_clock.specs.SpanText.{number_of}
use Rattle.ha_config.specs.declared.helper.Helper.{Helper}
use Rattle.ha_config.specs.declared.helper.HelperKind.{HelperKind}
use Rattle.yaml_scan.specs.declared.fault.Fault.{Fault}
use Rattle.yaml_scan.specs.declared.fault.Code.TheVariants as code
use Rattle.yaml_tree.specs.declared.node.NodeKind.TheOpen.{NodeKind-F}
use Rattle.yaml_tree.specs.Readers.{Shape, shape_of, is_null_word}
use Rattle.conf_field.specs.declared.key.Key.TheVariants as key
use Rattle.conf_field.specs.declared.table.Row.{Row}
use Rattle.conf_field.specs.Readings.{Read, bad, both, each, fault, made, unless}
use Rattle.conf_field.specs.Fields.{Meaning, Pair, get, keys, names, place, row}
use Rattle.conf_field.specs.Kinds.{flag, in_scalar, within}
use Rattle.conf_field.specs.Spans.{span}

-- a map's pairs, and none for null
abbrev pub pairs_by : {A : Type 0} → (List Pair → Read A) → ℕ → Shape → Read A
pairs_by read line (NodeKind-F.Scalar t plain) = if plain && is_null_word t then read [] else bad line code.Kind
pairs_by read line (NodeKind-F.List items) = bad line code.Kind
pairs_by read line (NodeKind-F.Map pairs) = read pairs

abbrev pub in_map : {A : Type 0} → (List Pair → Read A) → Meaning A
in_map read line n = pairs_by read line (shape_of n)

-- ---- flags: a name and an icon are accepted and ignored, and so is whether a counter or a timer is restored

abbrev pub flag_rows : List Row
flag_rows = row key.Initial ∷ row key.Name ∷ row key.Icon ∷ []

abbrev pub made_flag : Unit {0} × Option Bool → HelperKind
made_flag x = HelperKind.Flag (unwrap_or x.1 false)

abbrev pub flag_kind : ℕ → List Pair → Read HelperKind
flag_kind line pairs = made made_flag (both (keys flag_rows pairs) (get key.Initial pairs flag))

-- ---- counters

abbrev pub counter_rows : List Row
counter_rows =
    row key.Initial ∷ row key.Step ∷ row key.Minimum ∷ row key.Maximum ∷ row key.Restore ∷ row key.Name ∷ row key.Icon ∷ []

-- the least and the greatest number are -10^12 and 10^12
abbrev pub most : ℕ
most = 1_000_000_000_000

abbrev pub whole_from : ℕ → List ℕ → Option ℤ
whole_from low t = option_map pos (option_and_then (within low most) (number_of t))

-- digits, perhaps with `-` before them
abbrev pub signed : List ℕ → Option ℤ
signed [] = None
signed (b ∷ bs) = if b == 45 then option_map (λ n. neg_ℤ (pos n)) (option_and_then (within 0 most) (number_of bs)) else whole_from 0 (b ∷ bs)

abbrev pub first_number : Meaning ℤ
first_number = in_scalar code.Number (whole_from 0)

abbrev pub step_number : Meaning ℤ
step_number = in_scalar code.Number (whole_from 1)

abbrev pub bound : Meaning ℤ
bound = in_scalar code.Number signed

abbrev pub Bounds : Type 0
Bounds = Option ℤ × (Option ℤ × (Option ℤ × Option ℤ))

abbrev pub made_counter : Bounds → HelperKind
made_counter x = HelperKind.Counter (unwrap_or x.0 (pos 0)) (unwrap_or x.1.0 (pos 1)) (unwrap_or x.1.1.0 (neg_ℤ (pos most))) (unwrap_or x.1.1.1 (pos most))

-- a counter begins within its bounds, of which the lower is not above the upper
abbrev pub is_apt : HelperKind → Bool
is_apt (HelperKind.Flag initial) = true
is_apt (HelperKind.Counter initial step least greatest) = int_le least initial && int_le initial greatest
is_apt (HelperKind.Timer long) = true

-- what was read, where it passes
abbrev pub passing : {A : Type 0} → (A → Bool) → Fault → Read A → Read A
passing test f (Ok a) = if test a then Ok a else Err f
passing test f (Err g) = Err g

abbrev pub numbers : List Pair → Read Bounds
numbers pairs =
    both (get key.Initial pairs first_number)
    (both (get key.Step pairs step_number)
    (both (get key.Minimum pairs bound) (get key.Maximum pairs bound)))

abbrev pub second_of : Unit {0} × HelperKind → HelperKind
second_of x = x.1

-- that its bounds don't fit is a fault at the line of the key that names it
abbrev pub counter_kind : ℕ → List Pair → Read HelperKind
counter_kind line pairs =
    made second_of (both (keys counter_rows pairs) (passing is_apt (fault line code.Number) (made made_counter (numbers pairs))))

-- ---- timers

abbrev pub timer_rows : List Row
timer_rows = row key.Duration ∷ row key.Restore ∷ row key.Name ∷ row key.Icon ∷ []

abbrev pub made_timer : Unit {0} × Option ℕ → HelperKind
made_timer x = HelperKind.Timer (unwrap_or x.1 0)

abbrev pub timer_kind : ℕ → List Pair → Read HelperKind
timer_kind line pairs = made made_timer (both (keys timer_rows pairs) (get key.Duration pairs span))

-- ---- the helpers of one key

-- its value's map is read with the line of the key that names it
abbrev pub id_fault : Pair → Option Fault
id_fault p = if is_name p.0 then None else Some (fault p.1 code.EntityId)

abbrev pub named : List ℕ → Pair → Unit {0} × HelperKind → Helper
named domain p x = record { entity = record { domain = domain; object = p.0 }; kind = x.1 }

abbrev pub helper : List ℕ → (ℕ → List Pair → Read HelperKind) → Pair → Read Helper
helper domain read p = made (named domain p) (both (unless (id_fault p)) (in_map (read p.1) (place p) p.2))

abbrev pub helpers_of : List ℕ → (ℕ → List Pair → Read HelperKind) → Meaning (List Helper)
helpers_of domain read = in_map (each (helper domain read))

abbrev pub flags : Meaning (List Helper)
flags = helpers_of (codes "input_boolean") flag_kind

abbrev pub counters : Meaning (List Helper)
counters = helpers_of (codes "counter") counter_kind

abbrev pub timers : Meaning (List Helper)
timers = helpers_of (codes "timer") timer_kind

-- ---- all helpers

abbrev pub shape_pairs : Shape → List Pair
shape_pairs (NodeKind-F.Scalar t plain) = []
shape_pairs (NodeKind-F.List items) = []
shape_pairs (NodeKind-F.Map pairs) = pairs

abbrev pub helper_rows : List Row
helper_rows = row key.InputBoolean ∷ row key.Counter ∷ row key.Timer ∷ []

abbrev pub is_row : List Row → List ℕ → Bool
is_row rs name = list_any (λ r. names r name) rs

-- the pairs that name helpers, in the order of the text
abbrev pub named_by : Pair → List Pair
named_by p = if is_row helper_rows p.0 then shape_pairs (shape_of p.2) else []

abbrev pub too_many : List Pair → Option Fault
too_many pairs = option_map (λ p. fault (place p) code.Limit) (slice_get (flat_map named_by pairs) 1_024)

abbrev pub or_none : Option (List Helper) → List Helper
or_none o = unwrap_or o []

abbrev pub Three : Type 0
Three = Unit {0} × (Option (List Helper) × (Option (List Helper) × Option (List Helper)))

abbrev pub in_order : Three → List Helper
in_order x = or_none x.1.0 ++ or_none x.1.1.0 ++ or_none x.1.1.1

abbrev pub helpers_in : List Pair → Read (List Helper)
helpers_in pairs =
    made in_order
    (both (unless (too_many pairs))
    (both (get key.InputBoolean pairs flags) (both (get key.Counter pairs counters) (get key.Timer pairs timers))))
