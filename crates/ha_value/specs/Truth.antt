-- What counts as true: a value as an operand or a test, and a rendered text as the answer of a template.
use Rattle.std.specs.Prelude.{ℕ, Bool, true, false, not, ◌&&◌, ◌||◌, nat_eq, List, [], ◌∷◌, map, Option, Some, None, bytes_eq, codes}
use Rattle.std.specs.Char.{to_ascii_lowercase}
use Rattle.std.specs.List.{list_any}
use Rattle.ha_value.specs.declared.value.Num.{Num}
use Rattle.ha_value.specs.declared.value.Value.{Value}
use Rattle.ha_value.specs.declared.value.Value.TheOpen.{Value-F}
use Rattle.ha_value.specs.declared.value.Value.TheViews.{out-Value}
use Rattle.ha_value.specs.Lists.{trimmed}
use Rattle.ha_value.specs.Numbers.{is_in_range, is_zero, read_number}

-- false are null, false, zero, and the empty text, list and map; all else is true
abbrev pub truth_by_kind : Value-F Value → Bool
truth_by_kind Value-F.Null = false
truth_by_kind (Value-F.Flag b) = b
truth_by_kind (Value-F.Number n) = not (is_zero n)
truth_by_kind (Value-F.Text []) = false
truth_by_kind (Value-F.Text (c ∷ cs)) = true
truth_by_kind (Value-F.Items []) = false
truth_by_kind (Value-F.Items (v ∷ vs)) = true
truth_by_kind (Value-F.Pairs []) = false
truth_by_kind (Value-F.Pairs (p ∷ ps)) = true

abbrev pub truth : Value → Bool
truth v = truth_by_kind (out-Value v)

-- ---- the answer of a template

abbrev pub is_blank : ℕ → Bool
is_blank c = nat_eq c 32 || nat_eq c 9

-- a space, a tab or a line break
abbrev pub is_blank_or_break : ℕ → Bool
is_blank_or_break c = is_blank c || (nat_eq c 10 || nat_eq c 13)

abbrev pub yes_words : List (List ℕ)
yes_words = codes "true" ∷ codes "yes" ∷ codes "on" ∷ codes "enable" ∷ []

-- one of the words, without case
abbrev pub is_yes_word : List ℕ → Bool
is_yes_word text = list_any (bytes_eq (map to_ascii_lowercase text)) yes_words

abbrev pub is_some_other_than_zero : Option Num → Bool
is_some_other_than_zero None = false
is_some_other_than_zero (Some n) = not (is_zero n)

-- a text with blanks trimmed that is a number other than zero, or one of the words
unfoldable pub says_yes_text : List ℕ → Bool
says_yes_text text = is_some_other_than_zero (read_number (trimmed is_blank text)) || is_yes_word (trimmed is_blank text)

-- a rendered value is a text; a flag or a number counts as the text that it prints, null (which
-- prints `None`) is no yes, and a list or a map, which prints as nothing, is none either
abbrev pub yes_by_kind : Value-F Value → Bool
yes_by_kind Value-F.Null = false
yes_by_kind (Value-F.Flag b) = b
yes_by_kind (Value-F.Number n) = is_in_range n && not (is_zero n)
yes_by_kind (Value-F.Text t) = says_yes_text t
yes_by_kind (Value-F.Items vs) = false
yes_by_kind (Value-F.Pairs ps) = false

abbrev pub says_yes : Value → Bool
says_yes v = yes_by_kind (out-Value v)
