-- Rules over bytes.
use Rattle.std.specs.Prelude.{ℕ, ◌-◌, Bool, false, ◌&&◌, ◌==◌, nat_le, if◌then◌else◌, List, [], ◌∷◌, Option, Some, None, Ok}
use Rattle.std.specs.Char.{is_ascii_digit}
pub use Rattle.ha_value.specs.Truth.{is_blank}
use Rattle.reading.specs.declared.fault.Bad.{Bad}
use Rattle.reading.specs.Answer.{Rule, stop}

-- without the blanks at the front
unfoldable pub skip : List ℕ → List ℕ
skip [] = []
skip (b ∷ rest) = if is_blank b then skip rest else b ∷ rest

-- without the digits at the front
unfoldable pub skip_digits : List ℕ → List ℕ
skip_digits [] = []
skip_digits (b ∷ rest) = if is_ascii_digit b then skip_digits rest else b ∷ rest

-- the value of a hexadecimal digit
abbrev pub hex : ℕ → Option ℕ
hex b =
    if nat_le 48 b && nat_le b 57
    then Some (b - 48) else (if nat_le 65 b && nat_le b 70
    then Some (b - 55) else (if nat_le 97 b && nat_le b 102 then Some (b - 87) else None))

-- the next byte is this one
abbrev pub sees : ℕ → List ℕ → Bool
sees b [] = false
sees b (first ∷ rest) = first == b

-- these bytes, one after the other
unfoldable pub expect : {C : Type 0} → C → List ℕ → Rule ℕ (Bad C) (Unit {0})
expect code [] rest = Ok (tt, rest)
expect code (w ∷ ws) [] = stop code []
expect code (w ∷ ws) (b ∷ rest) = if b == w then expect code ws rest else stop code (b ∷ rest)
