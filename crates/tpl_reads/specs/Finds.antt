-- What a search for the entities that are read does to those that it found before.
use Rattle.std.specs.Prelude.{◌≡◌, Bool, true, false, List, ◌++◌, Some, None, option_map, Result, Ok, Err}
use Rattle.ha_value.specs.declared.value.EntityId.{EntityId}
use Rattle.ha_sight.specs.Rules.{each_once}
use Rattle.tpl_reads.specs.Reads.{Written}

-- where all are written, each of them once is found behind those that were found of the entities before; it is told where they are not; and
-- where memory ran out, nothing is said
abbrev pub Found : {Y : Type 0} → List EntityId → List EntityId → Written → Result Bool Y → Type 0
Found before new given (Ok true) = option_map (λ es. each_once (before ++ es)) given ≡ Some new
Found before new given (Ok false) = given ≡ None
Found before new given (Err fault) = Unit {0}

abbrev pub Finds : {Y : Type 0} → List EntityId → List EntityId → Written → Result Bool Y → Type 0
Finds old new given result = (before : List EntityId) → old ≡ each_once before → Found before new given result
