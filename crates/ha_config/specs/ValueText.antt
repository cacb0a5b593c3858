-- How a value is printed in a line, and how deep it is nested.
use Rattle.std.specs.Prelude.{ℕ, suc, ◌/◌, ◌%◌, max, Bool, nat_eq, nat_lt, List, [], ◌∷◌, ◌++◌, map, flat_map, codes, if◌then◌else◌}
use Rattle.std.specs.Char.{digit_char}
use Rattle.ha_value.specs.declared.value.Value.{Value}
use Rattle.ha_value.specs.declared.value.Value.TheOpen.{Value-F}
use Rattle.ha_value.specs.declared.value.Value.TheFolds.{fold-Value}
use Rattle.ha_config.specs.Words.{Text, Pairs}
use Rattle.ha_config.specs.Numbers.{print_number}

-- in a string, `"` (34), `\` (92), LF (10), CR (13) and tab (9) have short forms, the other bytes under 20 hexadecimal have `\u00` and two
-- digits, and all else stays
abbrev pub escaped_byte : ℕ → Text
escaped_byte c =
    if nat_eq c 34 then codes "\\\""
    else if nat_eq c 92 then codes "\\\\"
    else if nat_eq c 10 then codes "\\n"
    else if nat_eq c 13 then codes "\\r"
    else if nat_eq c 9 then codes "\\t"
    else if nat_lt c 32 then codes "\\u00" ++ (digit_char (c / 16) ∷ digit_char (c % 16) ∷ [])
    else c ∷ []

-- a text in double quotes
abbrev pub quoted : Text → Text
quoted t = 34 ∷ (flat_map escaped_byte t ++ 34 ∷ [])

-- texts with commas between them
abbrev pub comma_joined : List Text → Text
comma_joined [] = []
comma_joined (x ∷ []) = x
comma_joined (x ∷ y ∷ more) = x ++ 44 ∷ comma_joined (y ∷ more)

-- a key and what it has, both printed; a list and a map of such
abbrev pub pair_text : Text → Text → Text
pair_text key shown = quoted key ++ 58 ∷ shown

abbrev pub list_text : List Text → Text
list_text items = 91 ∷ (comma_joined items ++ 93 ∷ [])

abbrev pub map_text : List (Text × Text) → Text
map_text pairs = 123 ∷ (comma_joined (map (λ p. pair_text p.0 p.1) pairs) ++ 125 ∷ [])

abbrev pub flag_text : Bool → Text
flag_text b = if b then codes "true" else codes "false"

-- one level, with each value inside already printed
abbrev pub print_step : Value-F Text → Text
print_step Value-F.Null = codes "null"
print_step (Value-F.Flag b) = flag_text b
print_step (Value-F.Number n) = print_number n
print_step (Value-F.Text t) = quoted t
print_step (Value-F.Items texts) = list_text texts
print_step (Value-F.Pairs pairs) = map_text pairs

-- a value as it is printed: without blanks, in order
abbrev pub print_value : Value → Text
print_value = fold-Value Text print_step

abbrev pub print_pairs : Pairs → Text
print_pairs ps = map_text (map (λ p. (p.0, print_value p.1)) ps)

-- ---- nesting

abbrev pub deepest : List ℕ → ℕ
deepest [] = 0
deepest (n ∷ ns) = max n (deepest ns)

abbrev pub depth_step : Value-F ℕ → ℕ
depth_step (Value-F.Items ns) = suc (deepest ns)
depth_step (Value-F.Pairs ps) = suc (deepest (map (λ p. p.1) ps))
depth_step Value-F.Null = 0
depth_step (Value-F.Flag b) = 0
depth_step (Value-F.Number n) = 0
depth_step (Value-F.Text t) = 0

-- how many lists and maps are open at the deepest place
abbrev pub depth_of : Value → ℕ
depth_of = fold-Value ℕ depth_step

abbrev pub pairs_depth : Pairs → ℕ
pairs_depth ps = suc (deepest (map (λ p. depth_of p.1) ps))
