-- How a text stands in memory; no contract above needs it, since a `Word` is seen as its bytes.
use Rattle.std.specs.Prelude.{ℕ, List, take, string_bytes, ◌≤◌, IsUtf8}
use Rattle.ha_value.specs.declared.held.Held.{Held}

-- its bytes
abbrev pub bytes_of : Held → List ℕ
bytes_of (Held.Here len row) = take len row.bytes
bytes_of (Held.Far text) = string_bytes text.value

-- they are a text
abbrev pub IsText : Held → Type 0
IsText (Held.Here len row) = (len ≤ 22) × IsUtf8 (take len row.bytes)
IsText (Held.Far text) = Unit {0}
