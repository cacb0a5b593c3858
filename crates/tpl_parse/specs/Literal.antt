-- Characters, numbers, strings and names.
use Rattle.std.specs.Prelude.{ℕ, zero, suc, ◌-◌, Bool, false, not, ◌&&◌, ◌||◌, ◌==◌, is_none}
use Rattle.std.specs.Prelude.{if◌then◌else◌, List, [], ◌∷◌, ◌++◌, length, take, drop, Option, Some, None, Ok, encode_utf8}
use Rattle.std.specs.Char.{is_ascii_digit}
use Rattle.std.specs.Option.{is_some}
use Rattle.ha_value.specs.declared.value.Num.{Num}
use Rattle.ha_value.specs.Lists.{after_first}
use Rattle.ha_value.specs.Numbers.{read_number, without_sign}
use Rattle.reading.specs.Answer.{◌>>=◌, front, stop}
use Rattle.reading.specs.Bytes.{sees, skip_digits}
use Rattle.reading.specs.Characters.{character as utf8_character}
use Rattle.tpl_parse.specs.declared.table.Filter.{Filter}
use Rattle.tpl_parse.specs.Names.{filter_named, filters_reach, may_stand}
use Rattle.tpl_parse.specs.Token.{Reads, begins_name, in_name, is_reserved, spaces, stop_behind}

-- the bytes before those that are left
abbrev pub before : List ℕ → List ℕ → List ℕ
before rest left = take (length rest - length left) rest

-- ---- characters

-- the code of a character in UTF-8
abbrev pub character : Reads ℕ
character = utf8_character tt

-- ---- numbers

abbrev pub is_digit : Option ℕ → Bool
is_digit None = false
is_digit (Some b) = is_ascii_digit b

abbrev pub begins_places : List ℕ → Bool
begins_places rest = sees 46 rest && is_digit (front (drop 1 rest))

-- digits, and perhaps a dot with digits; a dot with no digit behind it is not the number's
abbrev pub behind_number : List ℕ → List ℕ
behind_number rest =
    let whole : List ℕ = skip_digits rest in
    if begins_places whole then skip_digits (drop 1 whole) else whole

-- a zero with a digit behind it, which changes no number
abbrev pub idle_zero : List ℕ → Bool
idle_zero digits = sees 48 digits && is_digit (front (drop 1 digits))

-- a dot stands in the text, behind its sign
abbrev pub has_dot : List ℕ → Bool
has_dot text = is_some (after_first 46 (without_sign text))

-- how many bytes stand before the first digit with which the number is out of range, from so many on
unfoldable pub before_range_end : ℕ → List ℕ → List ℕ → ℕ
before_range_end count text [] = count
before_range_end count text (b ∷ more) =
    if not (b == 46) && is_none (read_number (take (suc count) text)) then count else before_range_end (suc count) text more

abbrev pub in_range : Option Num → List ℕ → List ℕ → Reads Num
in_range (Some n) digits rest left = Ok (n, left)
in_range None digits rest left = stop_behind (before_range_end 0 digits digits) rest

unfoldable pub number : Reads Num
number rest = in_range (read_number (before rest (behind_number rest))) (before rest (behind_number rest)) rest (behind_number rest)

-- ---- strings

-- what a byte behind a backslash stands for, where it is an escape
abbrev pub unescaped : ℕ → Option ℕ
unescaped b =
    if b == 92 || b == 39 || b == 34 then Some b else (if b == 110 then Some 10 else (if b == 116 then Some 9 else None))

abbrev pub escape : Option ℕ → Option ℕ
escape None = None
escape (Some b) = unescaped b

-- the escape at the front
abbrev pub escape_at : List ℕ → Option ℕ
escape_at rest = if sees 92 rest then escape (front (drop 1 rest)) else None

abbrev pub plain_or : Option ℕ → Reads (List ℕ)
plain_or (Some meant) rest = Ok (meant ∷ [], drop 2 rest)
plain_or None rest = do
  c ← character rest
  Ok (encode_utf8 c.0, c.1)

-- a character's bytes, or what an escape stands for; a backslash that begins no escape stays
unfoldable pub string_character : Reads (List ℕ)
string_character rest = plain_or (escape_at rest) rest

-- characters up to the quote, behind those that were found; a number bounds the turns
unfoldable pub string_turns : ℕ → ℕ → List ℕ → Reads (List ℕ)
string_turns zero quote found rest = stop tt rest
string_turns (suc n) quote found rest =
    if sees quote rest then Ok (found, drop 1 rest) else (do
      c ← string_character rest
      string_turns n quote (found ++ c.0) c.1)

-- a string behind its opening quote
unfoldable pub string : ℕ → Reads (List ℕ)
string quote rest = string_turns (suc (length rest)) quote [] rest

-- ---- names

-- behind the longest run of letters, digits and `_`
unfoldable pub skip_word : List ℕ → List ℕ
skip_word [] = []
skip_word (b ∷ rest) = if in_name b then skip_word rest else b ∷ rest

abbrev pub word : List ℕ → List ℕ
word rest = before rest (skip_word rest)

abbrev pub starts_name : Option ℕ → Bool
starts_name None = false
starts_name (Some b) = begins_name b

unfoldable pub unreserved : Reads (List ℕ)
unreserved rest = if is_reserved (word rest) then stop tt (skip_word rest) else Ok (word rest, skip_word rest)

abbrev pub name_at : Reads (List ℕ)
name_at rest = if starts_name (front rest) then unreserved rest else stop tt rest

-- a name, behind blanks and breaks; the words of the grammar are no names
unfoldable pub name : Reads (List ℕ)
name rest = name_at (spaces rest)

abbrev pub standing : Bool → Option Filter → Option Filter
standing opens None = None
standing opens (Some filter) = if may_stand opens filter then Some filter else None

abbrev pub filter_or : Bool → Option Filter → Reads Filter
filter_or opens (Some filter) rest = Ok (filter, skip_word rest)
filter_or opens None rest = stop_behind (filters_reach opens rest) rest

-- the name of a filter, behind blanks and breaks; whether an expression may be opened in it
unfoldable pub filter_name : Bool → Reads Filter
filter_name opens rest = filter_or opens (standing opens (filter_named (word (spaces rest)))) (spaces rest)
