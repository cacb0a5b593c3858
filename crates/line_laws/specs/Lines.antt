-- A line that has a map, in terms of the grammar.
use Rattle.std.specs.Prelude.{◌≡◌, ◌≤◌, true, length}
use Rattle.std.specs.Str.{is_utf8}
use Rattle.ha_value.specs.declared.value.Value
use Rattle.ha_config.specs.Words.{Text, Pairs}
use Rattle.flow_line.specs.Grammar.{IsDocument}

-- the line is no longer than a line may be, is UTF-8, and is the map of these pairs
pub record IsLine (line : Text) (pairs : Pairs) : Type 0 where
  pub short : length line ≤ 65_536
  pub utf8 : is_utf8 line ≡ true
  pub map : IsDocument line (Value.Pairs pairs)
