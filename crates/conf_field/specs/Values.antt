-- Values that are written in a configuration, without templates.
use Rattle.std.specs.Prelude.{ℕ, ◌&&◌, ◌==◌, Bool, true, false, not, if◌then◌else◌}
use Rattle.std.specs.Prelude.{List, [], ◌∷◌, Option, Some, None, Ok, option_map}
use Rattle.std.specs.Char.{is_ascii_digit}
use Rattle.ha_value.specs.declared.value.Value.{Value}
use Rattle.ha_value.specs.declared.value.Value.TheVariants as values
use Rattle.ha_value.specs.Lists.{before_first, after_first, some_all}
use Rattle.ha_value.specs.Numbers.{read_number}
use Rattle.yaml_scan.specs.declared.fault.Code.TheVariants as code
use Rattle.yaml_tree.specs.declared.node.Node.{Node}
use Rattle.yaml_tree.specs.Readers.{is_null_word}
use Rattle.conf_field.specs.Readings.{Read, bad, or_bad}
use Rattle.conf_field.specs.Fields.{Meaning}
use Rattle.conf_field.specs.Kinds.{flag_of, holds_template}
use Rattle.conf_field.specs.Trees.{Fields, tree, data_of}

-- one digit or more
abbrev pub are_digits : List ℕ → Bool
are_digits t = some_all is_ascii_digit t

-- `0`, or digits that do not begin with it
abbrev pub is_whole_form : List ℕ → Bool
is_whole_form [] = false
is_whole_form (b ∷ []) = is_ascii_digit b
is_whole_form (b ∷ c ∷ bs) = not (b == 48) && are_digits (b ∷ c ∷ bs)

abbrev pub are_places : Option (List ℕ) → Bool
are_places None = true
are_places (Some digits) = are_digits digits

abbrev pub is_unsigned_form : List ℕ → Bool
is_unsigned_form t = is_whole_form (before_first 46 t) && are_places (after_first 46 t)

-- `-` or nothing, a whole number without leading zeros, and perhaps places
abbrev pub is_number_form : List ℕ → Bool
is_number_form [] = false
is_number_form (b ∷ bs) = if b == 45 then is_unsigned_form bs else is_unsigned_form (b ∷ bs)

-- A plain scalar that is neither a flag nor null is a number, where it has a number's form, or a text.
abbrev pub number_or_text : ℕ → List ℕ → Read Value
number_or_text line t = if is_number_form t then or_bad line code.Number (option_map values.Number (read_number t)) else Ok (values.Text t)

abbrev pub plain_by : ℕ → List ℕ → Option Bool → Read Value
plain_by line t (Some b) = Ok (values.Flag b)
plain_by line t None = if is_null_word t then Ok values.Null else number_or_text line t

abbrev pub plain_value : ℕ → List ℕ → Read Value
plain_value line t = plain_by line t (flag_of t)

-- a scalar that holds no template: in quotes it is a text
abbrev pub bare_value : ℕ → List ℕ → Bool → Read Value
bare_value line t plain = if plain then plain_value line t else Ok (values.Text t)

abbrev pub scalar_value : ℕ → List ℕ → Bool → Read Value
scalar_value line t plain = if holds_template t then bad line code.Template else bare_value line t plain

-- a scalar, a list of values, or a map of them
abbrev pub value_of : Node → Read Value
value_of = tree scalar_value values.Items values.Pairs

-- a map of such values, or null for none
abbrev pub data_without_templates : Meaning (Fields Value)
data_without_templates = data_of value_of
