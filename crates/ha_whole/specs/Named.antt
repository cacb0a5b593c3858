-- Lists of pairs by their names.
use Rattle.std.specs.Prelude.{List, [], ◌∷◌, Option, Some, None, is_some, if◌then◌else◌}
use Rattle.ha_config.specs.Words.{Text, same}
pub use Rattle.ha_config.specs.StoreText.{in_name_order, placed_by_name}
pub use Rattle.ha_config.specs.Sound.{are_in_name_order}

-- the value of a name
abbrev pub named : {X : Type 0} → Text → List (Text × X) → Option X
named name [] = None
named name (p ∷ ps) = if same p.0 name then Some p.1 else named name ps

-- of the pairs of each name the last one
abbrev pub last_of_each : {X : Type 0} → List (Text × X) → List (Text × X)
last_of_each [] = []
last_of_each (p ∷ ps) = if is_some (named p.0 ps) then last_of_each ps else p ∷ last_of_each ps
