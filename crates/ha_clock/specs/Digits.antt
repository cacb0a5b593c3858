-- Digits of a text.
use Rattle.std.specs.Prelude.{ℕ, ◌+◌, ◌-◌, ◌*◌, ◌==◌, ◌&&◌, Bool, List, slice_index}
use Rattle.std.specs.Char.{is_ascii_digit}

abbrev pub are_digits : ℕ → ℕ → Bool
are_digits a b = is_ascii_digit a && is_ascii_digit b

-- the number of two digits
abbrev pub two_digits : ℕ → ℕ → ℕ
two_digits a b = (a - 48) * 10 + (b - 48)

-- two digits from place i on, and their number
abbrev pub has_pair : List ℕ → ℕ → Bool
has_pair text i = are_digits (slice_index text i) (slice_index text (i + 1))

abbrev pub pair : List ℕ → ℕ → ℕ
pair text i = two_digits (slice_index text i) (slice_index text (i + 1))

-- this byte at place i
abbrev pub has_byte_at : List ℕ → ℕ → ℕ → Bool
has_byte_at text i b = slice_index text i == b

-- the number of the digit at place i
abbrev pub digit_at : List ℕ → ℕ → ℕ
digit_at text i = slice_index text i - 48
