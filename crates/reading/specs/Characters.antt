-- Characters in UTF-8, as `decoded` reads them: by Table 3-7 of the Unicode Standard.
use Rattle.std.specs.Prelude.{ℕ, Bool, false, not, ◌==◌, if◌then◌else◌, drop, Option, Some, None, Ok}
use Rattle.bstr.specs.Utf8.{decoded, lead_len}
use Rattle.reading.specs.declared.fault.Bad.{Bad}
use Rattle.reading.specs.Answer.{Rule, front, stop}

-- a character begins with this byte
abbrev pub begins_character : Option ℕ → Bool
begins_character None = false
begins_character (Some b) = not (lead_len b == 0)

abbrev pub decoded_or_stop : {C : Type 0} → C → Option ℕ → ℕ → Rule ℕ (Bad C) ℕ
decoded_or_stop code (Some c) size text = Ok (c, drop size text)
decoded_or_stop code None size text = stop code (if begins_character (front text) then drop size text else text)

-- the code of a character; a text that begins with none is wrong at the first byte with which none goes on
unfoldable pub character : {C : Type 0} → C → Rule ℕ (Bad C) ℕ
character code text = decoded_or_stop code (decoded text).char (decoded text).size text
