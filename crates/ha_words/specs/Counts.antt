-- How many lines `rehearse` is asked for.
use Rattle.std.specs.Prelude.{ℕ, ◌==◌, ◌&&◌, Bool, false, not, nat_le, if◌then◌else◌, [], ◌∷◌, Option, Some, None}
use Rattle.std.specs.List.{list_all}
use Rattle.std.specs.Char.{is_ascii_digit}
use Rattle.std.specs.Str.Parse.{digits_value}
use Rattle.clap.specs.Words.{Text}

-- `0`, or digits that do not begin with it
abbrev pub is_plain_number : Text → Bool
is_plain_number [] = false
is_plain_number (b ∷ []) = is_ascii_digit b
is_plain_number (b ∷ c ∷ bs) = not (b == 48) && list_all is_ascii_digit (b ∷ c ∷ bs)

-- `rehearse` takes at most this many lines
abbrev pub most_lines : ℕ
most_lines = 100_000

abbrev pub few_lines : ℕ → Option ℕ
few_lines n = if nat_le n most_lines then Some n else None

-- the number of lines that a text asks for
unfoldable pub count_of : Text → Option ℕ
count_of t = if is_plain_number t then few_lines (digits_value 10 t) else None
