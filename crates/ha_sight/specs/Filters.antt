-- The filters and functions of templates, a row each. Another number, another count of arguments and another kind of one is a fault.
use Rattle.std.specs.Prelude.{ℕ, Bool, true, false, not, ◌&&◌, nat_eq, nat_le, List, [], ◌∷◌, length, Option, Some, None, option_map, option_and_then, unwrap_or, is_some, codes, pos, if◌then◌else◌}
use Rattle.std.specs.List.{list_any}
use Rattle.std.specs.Option.{option_map_or}
use Rattle.ha_value.specs.declared.value.Num.{Num}
use Rattle.ha_value.specs.declared.value.Value.{Value}
use Rattle.ha_value.specs.declared.value.Value.TheOpen.{Value-F}
use Rattle.ha_value.specs.declared.value.Value.TheViews.{out-Value}
use Rattle.ha_value.specs.Truth.{truth}
use Rattle.ha_value.specs.Ids.{read_entity}
use Rattle.ha_sight.specs.declared.state.StateObject.{StateObject}
use Rattle.ha_config.specs.Words.{Text, same, first_pair, last_of, first_of_list, lower, upper, without_breaks, characters, is_empty_text, replaced_all}
use Rattle.ha_config.specs.Equal.{equal_value}
use Rattle.ha_sight.specs.FilterNumbers as filter
use Rattle.ha_sight.specs.FunctionNumbers as function
use Rattle.ha_config.specs.Numbers.{read_number, less, absolute, as_whole, as_fixed, rounded_to, is_in_range}
use Rattle.ha_sight.specs.Sight.{Sight}
use Rattle.ha_sight.specs.Values.{Result, flag, made_text, printed, number_of, text_of, items_of, is_null}

-- ---- numbers

-- the number of a number, of a text that is number text without its blanks and breaks, and of a flag
abbrev pub number_from : Value-F Value → Option Num
number_from (Value-F.Number n) = Some n
number_from (Value-F.Text t) = read_number (without_breaks t)
number_from (Value-F.Flag b) = Some (Num.Whole (pos (if b then 1 else 0)))
number_from Value-F.Null = None
number_from (Value-F.Items vs) = None
number_from (Value-F.Pairs ps) = None

-- `int` and `float`: the number in that form; where there is none the argument, and without one a fault
abbrev pub converted : (Num → Option Num) → Value → List Value → Result
converted form v [] = option_map Value.Number (option_and_then form (number_from (out-Value v)))
converted form v (other ∷ []) = Some (option_map_or Value.Number (option_and_then form (number_from (out-Value v))) other)
converted form v (x ∷ y ∷ more) = None

abbrev pub to_int : Value → List Value → Result
to_int = converted (λ n. Some (as_whole n))

abbrev pub to_float : Value → List Value → Result
to_float = converted as_fixed

-- a number, or a text that is number text
abbrev pub is_number : Value-F Value → Bool
is_number (Value-F.Number n) = true
is_number (Value-F.Text t) = is_some (read_number t)
is_number _ = false

-- 0 to 6 places, as a whole number
abbrev pub places_of : List Value → Option ℕ
places_of [] = Some 0
places_of (v ∷ []) = option_and_then small (number_of v)
  where
    small : Num → Option ℕ
    small (Num.Whole (pos n)) = if nat_le n 6 then Some n else None
    small _ = None
places_of (x ∷ y ∷ more) = None

-- a number in range, rounded; there is no other one in a configuration or journal
abbrev pub rounded_in_range : Num → ℕ → Option Num
rounded_in_range n places = if is_in_range n then Some (rounded_to places n) else None

abbrev pub to_places : Value → List Value → Result
to_places v args = option_map Value.Number (option_and_then (λ n. option_and_then (rounded_in_range n) (places_of args)) (number_of v))

-- all are numbers
abbrev pub all_numbers : List Value → Option (List Num)
all_numbers [] = Some []
all_numbers (v ∷ vs) = option_and_then (λ n. option_map (λ ns. n ∷ ns) (all_numbers vs)) (number_of v)

-- the first of the numbers that no other beats
abbrev pub best : (Num → Num → Bool) → Num → List Num → Num
best beats n [] = n
best beats n (x ∷ xs) = best beats (if beats x n then x else n) xs

abbrev pub best_of : (Num → Num → Bool) → List Num → Result
best_of beats [] = None
best_of beats (n ∷ ns) = Some (Value.Number (best beats n ns))

-- of one or more numbers, or of one list of these
abbrev pub extreme : (Num → Num → Bool) → List Value → Result
extreme beats args = option_and_then (best_of beats) (all_numbers (among args))
  where
    among : List Value → List Value
    among (v ∷ []) = unwrap_or (items_of v) (v ∷ [])
    among vs = vs

-- ---- texts and lists

-- the characters of a text, the items of a list or a map
abbrev pub length_of : Value-F Value → Option ℕ
length_of (Value-F.Text t) = Some (characters t)
length_of (Value-F.Items vs) = Some (length vs)
length_of (Value-F.Pairs ps) = Some (length ps)
length_of _ = None

abbrev pub count_value : ℕ → Value
count_value n = Value.Number (Num.Whole (pos n))

-- the printed text, changed
abbrev pub printed_by : (Text → Text) → Value → Result
printed_by f v = option_and_then (λ t. made_text (f t)) (printed v)

abbrev pub text_by : (Text → Text) → Value → Result
text_by f v = option_and_then (λ t. made_text (f t)) (text_of v)

-- `replace`: an empty text has no place to be replaced at
abbrev pub replaced : Text → Text → Text → Result
replaced t old new = if is_empty_text old then None else made_text (replaced_all old new t)

abbrev pub replaced_in : Value → Value → Value → Result
replaced_in v old new = option_and_then (λ t. option_and_then (λ o. option_and_then (replaced t o) (text_of new)) (text_of old)) (text_of v)

-- ---- filters

-- those that take no argument
abbrev pub bare_filter : ℕ → Value → Result
bare_filter name v =
    if nat_eq name filter.abs then option_map Value.Number (option_and_then absolute (number_of v))
    else if nat_eq name filter.lower then printed_by lower v
    else if nat_eq name filter.upper then printed_by upper v
    else if nat_eq name filter.trim then text_by without_breaks v
    else if nat_eq name filter.length then option_map count_value (length_of (out-Value v))
    else if nat_eq name filter.first then option_map (λ vs. unwrap_or (first_of_list vs) Value.Null) (items_of v)
    else if nat_eq name filter.last then option_map (λ vs. unwrap_or (last_of vs) Value.Null) (items_of v)
    else if nat_eq name filter.string then printed_by (λ t. t) v
    else if nat_eq name filter.is_number then flag (is_number (out-Value v))
    else None

abbrev pub filter_without : ℕ → Value → Result
filter_without name v =
    if nat_eq name filter.int then to_int v []
    else if nat_eq name filter.float then to_float v []
    else if nat_eq name filter.round then to_places v []
    else bare_filter name v

abbrev pub filter_with : ℕ → Value → Value → Result
filter_with name v arg =
    if nat_eq name filter.int then to_int v (arg ∷ [])
    else if nat_eq name filter.float then to_float v (arg ∷ [])
    else if nat_eq name filter.round then to_places v (arg ∷ [])
    else if nat_eq name filter.default then Some (if is_null v then arg else v)
    else None

-- a filter, by the number of its arguments
abbrev pub filtered : ℕ → Value → List Value → Result
filtered name v [] = filter_without name v
filtered name v (arg ∷ []) = filter_with name v arg
filtered name v (old ∷ new ∷ []) = if nat_eq name filter.replace then replaced_in v old new else None
filtered name v (x ∷ y ∷ z ∷ more) = None

-- ---- functions

module _ (sight : Sight) where
  -- the state that a text names, if there is one
  abbrev pub state_named : Text → Option StateObject
  state_named t = option_and_then sight.states (read_entity t)

  -- the state text, and `unknown` where there is no such entity
  abbrev pub state_text : Text → Text
  state_text t = option_map_or (λ o. o.text) (state_named t) (codes "unknown")

  abbrev pub attribute_of : Text → Text → Option Value
  attribute_of t name = option_and_then (λ o. first_pair name o.attributes) (state_named t)

  abbrev pub attribute_or_null : Text → Text → Value
  attribute_or_null t name = unwrap_or (attribute_of t name) Value.Null

  -- there, and equal
  abbrev pub attribute_is : Text → Text → Value → Bool
  attribute_is t name v = option_map_or (equal_value v) (attribute_of t name) false

  -- there, and its text is this one, or one of the list
  abbrev pub text_is_one : Value-F Value → Text → Option Bool
  text_is_one (Value-F.Text s) t = Some (same s t)
  text_is_one (Value-F.Items vs) t = Some (list_any (λ v. option_map_or (λ s. same s t) (text_of v) false) vs)
  text_is_one _ t = None

  abbrev pub is_state : Text → Value-F Value → Option Bool
  is_state t wanted = option_and_then
      (λ one. Some (option_map_or (λ o. unwrap_or (text_is_one wanted o.text) false) (state_named t) false))
      (text_is_one wanted [])

  abbrev pub has_value : Text → Bool
  has_value t = option_map_or (λ o. not (same o.text (codes "unknown")) && not (same o.text (codes "unavailable"))) (state_named t) false

  abbrev pub function_one : ℕ → Value → Result
  function_one name x =
      if nat_eq name function.states then option_map (λ t. Value.Text (state_text t)) (text_of x)
      else if nat_eq name function.has_value then option_map (λ t. Value.Flag (has_value t)) (text_of x)
      else if nat_eq name function.int then to_int x []
      else if nat_eq name function.float then to_float x []
      else if nat_eq name function.is_number then flag (is_number (out-Value x))
      else None

  abbrev pub function_two : ℕ → Value → Value → Result
  function_two name x y =
      if nat_eq name function.state_attr then option_and_then (λ t. option_map (λ a. attribute_or_null t a) (text_of y)) (text_of x)
      else if nat_eq name function.is_state then option_and_then (λ t. option_and_then flag (is_state t (out-Value y))) (text_of x)
      else if nat_eq name function.int then to_int x (y ∷ [])
      else if nat_eq name function.float then to_float x (y ∷ [])
      else None

  abbrev pub function_three : ℕ → Value → Value → Value → Result
  function_three name x y z =
      if nat_eq name function.is_state_attr
      then option_and_then (λ t. option_map (λ a. Value.Flag (attribute_is t a z)) (text_of y)) (text_of x)
      else if nat_eq name function.iif then Some (if truth x then y else z)
      else None

  abbrev pub by_count : ℕ → List Value → Result
  by_count name [] = None
  by_count name (x ∷ []) = function_one name x
  by_count name (x ∷ y ∷ []) = function_two name x y
  by_count name (x ∷ y ∷ z ∷ []) = function_three name x y z
  by_count name (w ∷ x ∷ y ∷ z ∷ more) = None

  -- a function: those of any number of arguments, then by that number
  abbrev pub applied : ℕ → List Value → Result
  applied name args =
      if nat_eq name function.min then extreme (λ x n. less x n) args
      else if nat_eq name function.max then extreme (λ x n. less n x) args
      else by_count name args
