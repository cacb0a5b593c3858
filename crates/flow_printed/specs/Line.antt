-- A line of a trace, cut into the texts of its source, its number and its command.
use Rattle.std.specs.Prelude.{◌-◌, ◌∷◌, [], length, take, drop, codes, Option, Some, None, if◌then◌else◌}
use Rattle.ha_value.specs.Lists.{before_first, after_first}
use Rattle.ha_config.specs.ValueText.{map_text}
use Rattle.ha_config.specs.Words.{Text, same}
use Rattle.flow_printed.specs.Map.{◌>>=◌}

-- a line whose values have these texts
abbrev pub shown_line : Text → Text → Text → Text
shown_line source number shown = map_text ((codes "source", source) ∷ (codes "number", number) ∷ (codes "cmd", shown) ∷ [])

-- what stands behind a fixed front, and before a fixed end
abbrev pub behind : Text → Text → Option Text
behind front text = if same (take (length front) text) front then Some (drop (length front) text) else None

abbrev pub before : Text → Text → Option Text
before last text = if same (drop (length text - length last) text) last then Some (take (length text - length last) text) else None

-- what stands before the first comma, and behind it
abbrev pub cut_at_comma : Text → Option (Text × Text)
cut_at_comma text = after_first 44 text >>= λ rest. Some (before_first 44 text, rest)

-- the texts of the source, the number and the command
unfoldable pub cut_line : Text → Option (Text × Text × Text)
cut_line text = do
  first ← behind (codes "{\"source\":") text
  source ← cut_at_comma first
  second ← behind (codes "\"number\":") source.1
  number ← cut_at_comma second
  third ← behind (codes "\"cmd\":") number.1
  shown ← before (codes "}") third
  Some (source.0, number.0, shown)
