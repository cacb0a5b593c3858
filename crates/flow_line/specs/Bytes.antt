-- Single bytes of the notation.
use Rattle.std.specs.Prelude.{ℕ, Bool, not, ◌&&◌, ◌==◌, nat_le, if◌then◌else◌, Option, Some, None}
use Rattle.std.specs.Option.{unwrap_or}
use Rattle.reading.specs.Bytes.{hex}

abbrev pub is_in : ℕ → ℕ → ℕ → Bool
is_in low high b = nat_le low b && nat_le b high

-- a character, or its first byte, that may stand in a string as it is: no control character below 32, no quote and no backslash
abbrev pub stands_as_is : ℕ → Bool
stands_as_is c = nat_le 32 c && not (c == 34) && not (c == 92)

-- an ASCII byte that stands for itself in a string
abbrev pub is_plain : ℕ → Bool
is_plain b = is_in 32 127 b && not (b == 34) && not (b == 92)

-- the value of a hexadecimal digit, and 16 for any other byte
abbrev pub hex_value : ℕ → ℕ
hex_value b = unwrap_or (hex b) 16

-- what a letter or sign behind a backslash stands for
abbrev pub unescaped : ℕ → Option ℕ
unescaped b =
    if b == 34 then Some 34 else (if b == 92 then Some 92 else (if b == 47 then Some 47 else (if b == 98 then Some 8 else
    (if b == 102 then Some 12 else (if b == 110 then Some 10 else (if b == 114 then Some 13 else (if b == 116 then Some 9 else None)))))))
