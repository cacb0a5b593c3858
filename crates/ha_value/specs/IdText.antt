-- How the text of an entity id stands in memory; no contract above needs it, since it is seen as its bytes.
use Rattle.std.specs.Prelude.{ℕ, List, take, string_bytes, ◌≤◌, IsUtf8}
use Rattle.ha_value.specs.declared.id_text.IdHeld.{IdHeld}

-- its bytes
abbrev pub id_bytes : IdHeld → List ℕ
id_bytes (IdHeld.Here len row) = take len row.bytes
id_bytes (IdHeld.Far text) = string_bytes text.value

-- they are a text
abbrev pub IsIdText : IdHeld → Type 0
IsIdText (IdHeld.Here len row) = (len ≤ 38) × IsUtf8 (take len row.bytes)
IsIdText (IdHeld.Far text) = Unit {0}
