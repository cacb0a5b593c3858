-- The operators of templates, and their access to the parts of a value. A fault is None.
use Rattle.std.specs.Prelude.{ℕ, suc, ◌-◌, Bool, true, false, not, nat_le, List, ◌++◌, length, sum, sum_by, Option, Some, None, slice_get, option_map, option_and_then, unwrap_or, codes, pos, negsuc, if◌then◌else◌}
use Rattle.std.specs.List.{list_any}
use Rattle.std.specs.Option.{option_map_or}
use Rattle.ha_value.specs.declared.value.Num.{Num}
use Rattle.ha_value.specs.declared.value.Value.{Value}
use Rattle.ha_value.specs.declared.value.Value.TheOpen.{Value-F}
use Rattle.ha_value.specs.declared.value.Value.TheFolds.{fold-Value}
use Rattle.ha_value.specs.declared.value.Value.TheVariants.{Items}
use Rattle.ha_value.specs.declared.value.Value.TheViews.{out-Value}
use Rattle.ha_value.specs.Truth.{truth}
use Rattle.ha_config.specs.declared.template.Op.{Op}
use Rattle.ha_config.specs.Words.{Text, Pairs, same, first_pair, has_name, comes_before, is_part_of}
use Rattle.ha_config.specs.Equal.{equal_value}
use Rattle.ha_config.specs.Numbers.{print_number, read_number, less, plus, minus, times, over, floor_over, modulo, negated}

-- a value, or a fault
abbrev pub Result : Type 0
Result = Option Value

-- ---- texts and lists that a template makes

-- a text made in a template has at most 65,536 bytes
abbrev pub bounded : Text → Option Text
bounded t = if nat_le (length t) 65_536 then Some t else None

abbrev pub made_text : Text → Result
made_text t = option_map Value.Text (bounded t)

-- how many values a value is: itself, and those inside it
abbrev pub size_step : Value-F ℕ → ℕ
size_step Value-F.Null = 1
size_step (Value-F.Flag b) = 1
size_step (Value-F.Number n) = 1
size_step (Value-F.Text t) = 1
size_step (Value-F.Items sizes) = suc (sum sizes)
size_step (Value-F.Pairs ps) = suc (sum_by (λ p. p.1) ps)

abbrev pub size_of : Value → ℕ
size_of = fold-Value ℕ size_step

-- the most values that a list in brackets has, those inside its items counted
unfoldable pub most_values : ℕ
most_values = 65_536

-- a list in brackets; one of more values is a fault
abbrev pub bounded_items : List Value → Result
bounded_items vs = if nat_le (sum_by size_of vs) most_values then Some (Items vs) else None

-- the printed text; a list or a map has none
abbrev pub printed_by_kind : Value-F Value → Option Text
printed_by_kind Value-F.Null = Some (codes "None")
printed_by_kind (Value-F.Flag b) = Some (if b then codes "True" else codes "False")
printed_by_kind (Value-F.Number n) = Some (print_number n)
printed_by_kind (Value-F.Text t) = Some t
printed_by_kind (Value-F.Items vs) = None
printed_by_kind (Value-F.Pairs ps) = None

abbrev pub printed : Value → Option Text
printed v = printed_by_kind (out-Value v)

-- a number whose print the text is, else the text
abbrev pub number_or_text : Text → Num → Value
number_or_text t n = if same (print_number n) t then Value.Number n else Value.Text t

-- a rendered text as data: the print of a number is that number, `True` and `False` are flags, and all else is a text
abbrev pub as_data : Text → Value
as_data t =
    if same t (codes "True") then Value.Flag true
    else if same t (codes "False") then Value.Flag false
    else option_map_or (number_or_text t) (read_number t) (Value.Text t)

-- ---- kinds: the number, text, list and map that a value is, if it is one

abbrev pub number_in : Value-F Value → Option Num
number_in (Value-F.Number n) = Some n
number_in _ = None

abbrev pub text_in : Value-F Value → Option Text
text_in (Value-F.Text t) = Some t
text_in _ = None

abbrev pub items_in : Value-F Value → Option (List Value)
items_in (Value-F.Items vs) = Some vs
items_in _ = None

abbrev pub pairs_in : Value-F Value → Option Pairs
pairs_in (Value-F.Pairs ps) = Some ps
pairs_in _ = None

abbrev pub number_of : Value → Option Num
number_of v = number_in (out-Value v)

abbrev pub text_of : Value → Option Text
text_of v = text_in (out-Value v)

abbrev pub items_of : Value → Option (List Value)
items_of v = items_in (out-Value v)

abbrev pub pairs_of_map : Value → Option Pairs
pairs_of_map v = pairs_in (out-Value v)

abbrev pub null_in : Value-F Value → Bool
null_in Value-F.Null = true
null_in _ = false

abbrev pub is_null : Value → Bool
is_null v = null_in (out-Value v)

-- ---- parts: what is not there, or is asked of another kind, is none

-- `.name` and `[text]` on a map
abbrev pub field_of : Value → Text → Value
field_of v name = unwrap_or (option_and_then (first_pair name) (pairs_of_map v)) Value.Null

-- `[i]` on a list: a whole number counts from the front, and a negative one from the end
abbrev pub item_number : List Value → Num → Option Value
item_number vs (Num.Whole (pos i)) = slice_get vs i
item_number vs (Num.Whole (negsuc i)) = if nat_le (suc i) (length vs) then slice_get vs (length vs - suc i) else None
item_number vs (Num.Fixed z) = None

abbrev pub at_index : Value → Value-F Value → Value
at_index v (Value-F.Text name) = field_of v name
at_index v (Value-F.Number n) = unwrap_or (option_and_then (λ vs. item_number vs n) (items_of v)) Value.Null
at_index v _ = Value.Null

abbrev pub part_at : Value → Value → Value
part_at v index = at_index v (out-Value index)

-- ---- operators

abbrev pub flag : Bool → Result
flag b = Some (Value.Flag b)

-- `<` and its kin take two numbers or two texts
abbrev pub order_of : (Num → Num → Bool) → (Text → Text → Bool) → Value-F Value → Value-F Value → Result
order_of numbers texts (Value-F.Number a) (Value-F.Number b) = flag (numbers a b)
order_of numbers texts (Value-F.Text a) (Value-F.Text b) = flag (texts a b)
order_of numbers texts _ _ = None

-- an item of a list, a key of a map or a part of a text
abbrev pub is_within : Value → Value-F Value → Option Bool
is_within a (Value-F.Items vs) = Some (list_any (equal_value a) vs)
is_within a (Value-F.Pairs ps) = option_map (λ key. has_name key ps) (text_of a)
is_within a (Value-F.Text t) = option_map (λ part. is_part_of part t) (text_of a)
is_within a _ = None

-- `+` takes two numbers or joins two texts
abbrev pub summed : Value-F Value → Value-F Value → Result
summed (Value-F.Number a) (Value-F.Number b) = option_map Value.Number (plus a b)
summed (Value-F.Text a) (Value-F.Text b) = made_text (a ++ b)
summed _ _ = None

-- the other arithmetic takes two numbers
abbrev pub on_numbers : (Num → Num → Option Num) → Value → Value → Result
on_numbers f a b = option_map Value.Number (option_and_then (λ x. option_and_then (f x) (number_of b)) (number_of a))

-- `~` joins printed texts
abbrev pub join_printed : Value → Value → Result
join_printed a b = option_and_then (λ x. option_and_then (λ y. made_text (x ++ y)) (printed b)) (printed a)

-- an operator on its two operands; those of `and` and `or` are chosen one by one (see Templates), and here decide as they do
abbrev pub operate : Op → Value → Value → Result
operate Op.Or a b = Some (if truth a then a else b)
operate Op.And a b = Some (if truth a then b else a)
operate Op.Equal a b = flag (equal_value a b)
operate Op.Unequal a b = flag (not (equal_value a b))
operate Op.Less a b = order_of less comes_before (out-Value a) (out-Value b)
operate Op.AtMost a b = order_of (λ x y. not (less y x)) (λ x y. not (comes_before y x)) (out-Value a) (out-Value b)
operate Op.More a b = order_of (λ x y. less y x) (λ x y. comes_before y x) (out-Value a) (out-Value b)
operate Op.AtLeast a b = order_of (λ x y. not (less x y)) (λ x y. not (comes_before x y)) (out-Value a) (out-Value b)
operate Op.Within a b = option_and_then flag (is_within a (out-Value b))
operate Op.Outside a b = option_and_then (λ found. flag (not found)) (is_within a (out-Value b))
operate Op.Plus a b = summed (out-Value a) (out-Value b)
operate Op.Minus a b = on_numbers minus a b
operate Op.Join a b = join_printed a b
operate Op.Times a b = on_numbers times a b
operate Op.Over a b = on_numbers over a b
operate Op.Floor a b = on_numbers floor_over a b
operate Op.Modulo a b = on_numbers modulo a b

-- `-` before a number
abbrev pub negation : Value → Result
negation v = option_map Value.Number (option_and_then negated (number_of v))
