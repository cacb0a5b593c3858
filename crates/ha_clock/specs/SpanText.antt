-- The text of a span: whole seconds, `HH:MM` or `HH:MM:SS`, each part one or more digits.
use Rattle.std.specs.Prelude.{ℕ, ◌+◌, ◌-◌, ◌*◌, ◌==◌, ◌&&◌, nat_le, Bool, List, []}
use Rattle.std.specs.Prelude.{◌∷◌, take, drop, position, Option, Some, None, if◌then◌else◌}
use Rattle.std.specs.Char.{is_ascii_digit}

-- the number that digits give when they follow the digits of n
unfoldable pub number_from : ℕ → List ℕ → Option ℕ
number_from n [] = Some n
number_from n (b ∷ text) = if is_ascii_digit b then number_from (n * 10 + (b - 48)) text else None

-- the number of one or more digits
unfoldable pub number_of : List ℕ → Option ℕ
number_of [] = None
number_of (b ∷ text) = number_from 0 (b ∷ text)

-- hours, minutes and seconds, the last two under 60, in seconds
abbrev pub clock_seconds : Option ℕ → Option ℕ → Option ℕ → Option ℕ
clock_seconds (Some hours) (Some minutes) (Some seconds) =
    if nat_le minutes 59 && nat_le seconds 59 then Some (hours * 3600 + minutes * 60 + seconds) else None
clock_seconds _ _ _ = None

abbrev pub is_colon : ℕ → Bool
is_colon b = b == 58

-- what follows the hours and a colon, by the place of its first colon: the minutes, or the minutes,
-- that colon and the seconds
abbrev pub after_hours : Option ℕ → List ℕ → Option ℕ → Option ℕ
after_hours hours text None = clock_seconds hours (number_of text) (Some 0)
after_hours hours text (Some i) = clock_seconds hours (number_of (take i text)) (number_of (drop (i + 1) text))

-- a text, by the place of its first colon: the seconds, or the hours, that colon and the rest
abbrev pub by_colon : List ℕ → Option ℕ → Option ℕ
by_colon text None = number_of text
by_colon text (Some i) =
    let rest = drop (i + 1) text in
    after_hours (number_of (take i text)) rest (position is_colon rest)

-- the seconds of a text, with no bound
unfoldable pub span_seconds : List ℕ → Option ℕ
span_seconds text = by_colon text (position is_colon text)

-- a number that is not over the seconds of the longest span
abbrev pub within_bound : Option ℕ → Option ℕ
within_bound None = None
within_bound (Some n) = if nat_le n 31_622_400 then Some n else None

-- the milliseconds of so many seconds, up to the longest span
abbrev pub bounded : Option ℕ → Option ℕ
bounded None = None
bounded (Some seconds) = if nat_le seconds 31_622_400 then Some (seconds * 1000) else None

-- the span of a text, in milliseconds
unfoldable pub span_of : List ℕ → Option ℕ
span_of text = bounded (span_seconds text)
